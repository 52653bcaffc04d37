-- The definitions of what a place lent for what is found holds after a call.
pub mod PutFound
