-- In the order of document 01: the recording and its distances, margins and truth over the samples, histories and truth over them, hold, fail and the verdict;
-- then what is accepted, and what a verdict says.
pub mod Card
pub mod Distance
pub mod Margin
pub mod History
pub mod Verdict
pub mod Accepted
pub mod Shown
pub mod Examples
