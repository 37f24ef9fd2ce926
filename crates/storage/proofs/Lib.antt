-- How the statements on stored sets are proved, one file a subject.
-- Designs of which the same is read:
pub mod SameDesigns
pub mod Unread
-- The law of lines, from the line to the writer and from the writer to the line:
pub mod Entries
pub mod Fitting
pub mod Accepting
pub mod Taking
-- Inductions over lines:
pub mod Feeds
pub mod Standing
pub mod Uniqueness
pub mod ReadingBack
pub mod InOrder
-- Empty lines and several sets:
pub mod EmptyLines
pub mod OnlyThese
pub mod Several
-- What the fill writes:
pub mod FilledFits
-- Demand 2's last sentence, all together:
pub mod Stored
