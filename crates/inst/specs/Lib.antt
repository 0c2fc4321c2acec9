pub mod Forms
pub mod Records
