-- What the code's own values stand for: no one needs to believe it.
pub mod Results
