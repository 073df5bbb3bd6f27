pub mod Definition
pub mod Request
pub mod Forms
