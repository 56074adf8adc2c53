-- What the arguments of a program say.
-- Assumes nothing.
use Rattle.std.specs.Prelude.{ℕ, cond, ◌||◌, List, length, Ok, Err, codes, Result, ◌==◌, nat_lt, slice_index}
use Rattle.settings.specs.declared.HouseSettings.{HouseSettings}
use Rattle.settings.specs.declared.DeskSettings.{DeskSettings}
use Rattle.settings.specs.declared.Wrong.{Wrong}
use Rattle.settings.specs.declared.Wrong.TheVariants.{Count, Desk, Retry}

-- house [BYTES]
abbrev pub house_given : List ℕ → Result HouseSettings Wrong
house_given xs =
    cond (length xs == 0) (Ok (record { bytes = 536870912 }))
    (cond (length xs == 1) (Ok (record { bytes = slice_index xs 0 })) (Err Count))

abbrev pub desk_given : (number nonce bytes retry : ℕ) → Result DeskSettings Wrong
desk_given n c b r =
    cond (nat_lt n 1 || nat_lt 63 n) (Err Desk)
    (cond (nat_lt r 1 || nat_lt 50000 r) (Err Retry) (Ok (record { desk = record { 0 = n }; nonce = record { 0 = c }; bytes = b; retry = r })))

-- desk N C [BYTES [RETRY]]
abbrev pub count_given : List ℕ → Result DeskSettings Wrong
count_given xs =
    cond (length xs == 2) (desk_given (slice_index xs 0) (slice_index xs 1) 16777216 20300)
    (cond (length xs == 3) (desk_given (slice_index xs 0) (slice_index xs 1) (slice_index xs 2) 20300)
    (cond (length xs == 4) (desk_given (slice_index xs 0) (slice_index xs 1) (slice_index xs 2) (slice_index xs 3)) (Err Count)))

-- what is said of wrong arguments
abbrev pub wrong_text : Wrong → List ℕ
wrong_text Count = codes "too few or too many arguments"
wrong_text Desk = codes "a desk's number is 1 to 63"
wrong_text Retry = codes "a retransmission time is 1 to 50000 ms"
