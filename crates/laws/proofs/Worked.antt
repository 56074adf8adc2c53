-- The worked cases are answered so: by computation.
use Rattle.std.proofs.Common.{refl}
use Rattle.promise.specs.Bytes.{every}
use Rattle.promise.specs.Sheets.{some, keep, find, none, first_of, drop_of, less, put, edition_of, bytes_of, as_expected, weight, reads, patches, removes, renames, does}
use Rattle.laws.specs.Cases.{CasesAnswered, answers}

pub cases_answered : CasesAnswered
unfolding answers every some keep find none first_of drop_of less put edition_of bytes_of as_expected weight reads patches removes renames does
cases_answered = refl
