pub mod Numbers
pub mod FreeNumbers
pub mod BlockLists
