-- Laws of the printed lines: none is longer than `LINE` (`Room`), those of several requirements (`Several`), and examples that compute (`Examples`).
pub mod Room
pub mod Several
pub mod Examples
