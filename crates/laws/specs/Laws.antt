-- What holds of the table of sheets whatever is called.
-- Assumes nothing.
use Rattle.promise.specs.Promise.{Tidy, HeldStays, PutThenRead, OnlyHands, TurnedAwayLeaves}

abbrev pub TableLaws : Type 0
TableLaws = Tidy × HeldStays × PutThenRead × OnlyHands × TurnedAwayLeaves
