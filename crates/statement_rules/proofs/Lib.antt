pub mod AllParts
pub mod Demands
mod Differing
mod ExpressionParts
mod ExpressionSteps
mod FirstSteps
pub mod Listing
mod LoadSteps
mod PartContracts
pub mod RowSteps
mod SessionParts
mod SessionSteps
pub mod StatementSteps
mod States
pub mod Stays
mod TableParts
mod TableSteps
mod WholeSteps
