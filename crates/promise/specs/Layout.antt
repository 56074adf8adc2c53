-- Calls and answers as bytes: what the table is asked and what it answers, to the byte. Numbers have their highest byte first.
-- Assumes nothing.
use Rattle.std.specs.Prelude.{ℕ, zero, suc, ◌+◌, Bool, true, false, cond, ◌&&◌, List, [], ◌∷◌, ◌++◌, length, Some, None, Option, ◌==◌, slice_index}
use Rattle.promise.specs.Bytes.{Bytes, be, bind, number_in, lengthed_in, ended}
use Rattle.promise.specs.Sheets.{Name, Expect, Any, Just', Call, Read, Put, Patch, Remove, Rename, Names, Take, LetGo, Reply, No, Yes, Edition, Got, Found, eight_wait}

-- a name: length (1), bytes
abbrev pub name_out : Name → Bytes
name_out n = be 1 (length n) ++ n

-- bytes: length (4), bytes
abbrev pub bytes_out : Bytes → Bytes
bytes_out b = be 4 (length b) ++ b

-- expected: 0, or 1 and an edition (8)
abbrev pub expect_out : Expect → Bytes
expect_out Any = 0 ∷ []
expect_out (Just' e) = 1 ∷ be 8 e

abbrev pub alone_out : Bool → Bytes
alone_out false = 0 ∷ []
alone_out true = 1 ∷ []

-- a call: its kind (1), then
unfoldable pub encode_call : Call → Bytes
encode_call (Read n f m) = 1 ∷ (name_out n ++ (be 4 f ++ be 4 m))
encode_call (Put n bs e) = 2 ∷ (name_out n ++ (expect_out e ++ bytes_out bs))
encode_call (Patch n at bs e) = 3 ∷ (name_out n ++ (be 4 at ++ (expect_out e ++ bytes_out bs)))
encode_call (Remove n e) = 4 ∷ (name_out n ++ expect_out e)
encode_call (Rename n k) = 5 ∷ (name_out n ++ name_out k)
encode_call (Names a m) = 6 ∷ (name_out a ++ be 2 m)
encode_call (Take n a) = 7 ∷ (name_out n ++ alone_out a)
encode_call (LetGo n) = 8 ∷ name_out n

unfoldable pub names_out : List Name → Bytes
names_out [] = []
names_out (n ∷ ns) = name_out n ++ names_out ns

-- an answer: its kind (1), then
unfoldable pub encode_reply : Reply → Bytes
encode_reply (No k) = 0 ∷ be 1 k
encode_reply Yes = 1 ∷ []
encode_reply (Edition e) = 2 ∷ be 8 e
encode_reply (Got e w bs) = 3 ∷ (be 8 e ++ (be 4 w ++ bytes_out bs))
encode_reply (Found ns) = 4 ∷ (be 2 (length ns) ++ names_out ns)

-- what a desk tells at which eight calls wait already
unfoldable pub busy : Bytes
busy = encode_reply (No eight_wait)

abbrev pub is_busy : Bytes → Bool
is_busy a = length a == 2 && (slice_index a 0 == 0 && slice_index a 1 == eight_wait)

-- READING: None where the bytes are no call: an unknown kind, a tag that is neither 0 nor 1, bytes missing or left over

abbrev pub expect_in : Bytes → Option (Expect × Bytes)
expect_in b =
    bind (number_in 1 b) (λ t.
    cond (t.0 == 0) (Some (Any, t.1))
    (cond (t.0 == 1) (bind (number_in 8 t.1) (λ e. Some (Just' e.0, e.1))) None))

abbrev pub alone_in : Bytes → Option (Bool × Bytes)
alone_in b = bind (number_in 1 b) (λ t. cond (t.0 == 0) (Some (false, t.1)) (cond (t.0 == 1) (Some (true, t.1)) None))

abbrev pub read_in : Bytes → Option Call
read_in b = bind (lengthed_in 1 b) (λ n. bind (number_in 4 n.1) (λ f. bind (number_in 4 f.1) (λ m. ended (Read n.0 f.0 m.0) m.1)))

abbrev pub put_in : Bytes → Option Call
put_in b = bind (lengthed_in 1 b) (λ n. bind (expect_in n.1) (λ e. bind (lengthed_in 4 e.1) (λ d. ended (Put n.0 d.0 e.0) d.1)))

abbrev pub patch_in : Bytes → Option Call
patch_in b =
    bind (lengthed_in 1 b) (λ n. bind (number_in 4 n.1) (λ a. bind (expect_in a.1) (λ e. bind (lengthed_in 4 e.1) (λ d.
    ended (Patch n.0 a.0 d.0 e.0) d.1))))

abbrev pub remove_in : Bytes → Option Call
remove_in b = bind (lengthed_in 1 b) (λ n. bind (expect_in n.1) (λ e. ended (Remove n.0 e.0) e.1))

abbrev pub rename_in : Bytes → Option Call
rename_in b = bind (lengthed_in 1 b) (λ n. bind (lengthed_in 1 n.1) (λ k. ended (Rename n.0 k.0) k.1))

abbrev pub names_call_in : Bytes → Option Call
names_call_in b = bind (lengthed_in 1 b) (λ a. bind (number_in 2 a.1) (λ m. ended (Names a.0 m.0) m.1))

abbrev pub take_in : Bytes → Option Call
take_in b = bind (lengthed_in 1 b) (λ n. bind (alone_in n.1) (λ a. ended (Take n.0 a.0) a.1))

abbrev pub let_go_in : Bytes → Option Call
let_go_in b = bind (lengthed_in 1 b) (λ n. ended (LetGo n.0) n.1)

-- by kind
abbrev pub call_in : (kind : ℕ) → Bytes → Option Call
call_in k b =
    cond (k == 1) (read_in b) (cond (k == 2) (put_in b) (cond (k == 3) (patch_in b) (cond (k == 4) (remove_in b)
    (cond (k == 5) (rename_in b) (cond (k == 6) (names_call_in b) (cond (k == 7) (take_in b) (cond (k == 8) (let_go_in b) None)))))))

unfoldable pub decode_call : Bytes → Option Call
decode_call b = bind (number_in 1 b) (λ k. call_in k.0 k.1)

-- so many names
unfoldable pub names_in : ℕ → Bytes → Option (List Name × Bytes)
names_in zero b = Some ([], b)
names_in (suc k) b = bind (lengthed_in 1 b) (λ n. bind (names_in k n.1) (λ ns. Some (n.0 ∷ ns.0, ns.1)))

abbrev pub got_in : Bytes → Option Reply
got_in b = bind (number_in 8 b) (λ e. bind (number_in 4 e.1) (λ w. bind (lengthed_in 4 w.1) (λ d. ended (Got e.0 w.0 d.0) d.1)))

abbrev pub found_in : Bytes → Option Reply
found_in b = bind (number_in 2 b) (λ k. bind (names_in k.0 k.1) (λ ns. ended (Found ns.0) ns.1))

abbrev pub no_in : Bytes → Option Reply
no_in b = bind (number_in 1 b) (λ n. ended (No n.0) n.1)

abbrev pub yes_in : Bytes → Option Reply
yes_in b = ended Yes b

abbrev pub edition_in : Bytes → Option Reply
edition_in b = bind (number_in 8 b) (λ e. ended (Edition e.0) e.1)

abbrev pub reply_in : (kind : ℕ) → Bytes → Option Reply
reply_in k b =
    cond (k == 0) (no_in b) (cond (k == 1) (yes_in b) (cond (k == 2) (edition_in b) (cond (k == 3) (got_in b) (cond (k == 4) (found_in b) None))))

unfoldable pub decode_reply : Bytes → Option Reply
decode_reply b = bind (number_in 1 b) (λ k. reply_in k.0 k.1)

-- ON A LINE between a caller and a desk: length of the rest (4), the call's number (8), the call or its answer
abbrev pub framed : (number : ℕ) → Bytes → Bytes
framed k b = be 4 (8 + length b) ++ (be 8 k ++ b)

-- the first frame of what came on a line: its number and its bytes, and what follows it; None where it isn't all there
abbrev pub frame_in : Bytes → Option (ℕ × Bytes × Bytes)
frame_in b = bind (lengthed_in 4 b) (λ f. bind (number_in 8 f.0) (λ k. Some (k.0, k.1, f.1)))
