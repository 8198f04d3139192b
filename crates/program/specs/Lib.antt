-- What is known of the bytes that were read and of those that were written (`Input`).
pub mod Input
