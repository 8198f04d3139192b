-- What stands at which place of a watch (`Places`). A fresh one is that of no rows (`Fresh`); what a watch holds gives its answers (`Answers`), and after an accepted row it is
-- that of the longer recording (`Longer`); so its margin is, after every list of rows, the definition's (`Promises`).
pub mod Places
pub mod Fresh
pub mod Answers
pub mod Longer
pub mod Promises
