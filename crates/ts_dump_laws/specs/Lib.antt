pub mod Statements
pub mod Rules
pub mod CarriedOut
pub mod Laws
pub mod Volumes
pub mod Said
pub mod Alone
