pub mod Form
pub mod Machine
pub mod Sets
