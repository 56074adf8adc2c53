-- lists, functions and membership
pub mod Base
pub mod View
pub mod Arrays
-- the invariant, and what each step leaves of it
pub mod Inv
pub mod Readings
pub mod Changes
pub mod Promote
pub mod Offer
pub mod Asking
pub mod Telling
pub mod Lives
-- shape and bounds, by an induction of their own
pub mod Minds
pub mod Facts
-- the steps of house and desks, and all runs
pub mod AtHouse
pub mod AtDesk
pub mod Shortened
pub mod OneTable
-- the other promises, over messages
pub mod Counting
pub mod Waiting
pub mod Busy
pub mod Silence
pub mod Answers
pub mod TwoMinutes
pub mod Sparing
pub mod Undisturbed
-- from messages to bytes
pub mod Ranges
pub mod Decoded
pub mod Lifted
pub mod Whole
-- the table of sheets is a lawful machine
pub mod SheetCases
pub mod SheetHands
pub mod SheetReplies
pub mod LongCalls
pub mod SheetsLawful
