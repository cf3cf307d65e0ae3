pub mod Choosing
pub mod KeyColumns
pub mod KeyOrder
pub mod KeyOrders
pub mod Trees
pub mod Layers
pub mod UnpackedLength
mod WorkedRows
pub mod CommonPrefixes
pub mod FaultsOfKeys
pub mod Failing
pub mod Truths
pub mod ListFacts
pub mod ListSearches
pub mod Orderings
pub mod RowFacts
pub mod Numbers
