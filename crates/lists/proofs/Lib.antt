-- Laws of `all_below` and `any_below` (`Below`), of values joined in a run (`Folds`), of `fill` (`Filled`, and `Reused` where places hold something else
-- until they are filled), of slices written from their front on (`Front`, and `Writing` of the loop), of mapped lists (`Maps`), of the list of a function's first values (`Each`),
-- and of chains of iterators (`Chains`).
pub mod Below
pub mod Folds
pub mod Filled
pub mod Reused
pub mod Front
pub mod Writing
pub mod Maps
pub mod Chains
pub mod Each
