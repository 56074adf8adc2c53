-- Calls as lines, behind the call's number and its verb. None where the line cannot be put into bytes.
-- Assumes nothing.
use Rattle.std.specs.Prelude.{ℕ, true, false, cond, length, Some, None, vec_items, codes, Option, ◌==◌}
use Rattle.std.specs.Str.{bytes_eq}
use Rattle.promise.specs.Bytes.{Bytes, bind, ended}
use Rattle.promise.specs.Sheets as t
use Rattle.codec.specs.Calls.{expect_of}
use Rattle.text.specs.Decimals.{number_word}
use Rattle.text.specs.Words.{word_in}
use Rattle.lines.specs.Fields.{name_word, hex_word, expect_word}
use Rattle.codec.specs.declared.call.Kind.{Kind}
use Rattle.codec.specs.declared.call.Kind.TheVariants as v
use Rattle.lines.specs.declared.shape.Form.{Form}
use Rattle.lines.specs.declared.shape.Form.TheVariants as f
use Rattle.lines.specs.declared.shape.Scratch.{Scratch}

abbrev pub most32 : ℕ
most32 = 4294967295

abbrev pub most16 : ℕ
most16 = 65535

-- the words that make a line a call
abbrev pub verb_in : Bytes → Option Kind
verb_in w =
    cond (bytes_eq w (codes "read")) (Some v.Read) (cond (bytes_eq w (codes "put")) (Some v.Put)
    (cond (bytes_eq w (codes "patch")) (Some v.Patch) (cond (bytes_eq w (codes "remove")) (Some v.Remove)
    (cond (bytes_eq w (codes "rename")) (Some v.Rename) (cond (bytes_eq w (codes "names")) (Some v.Names)
    (cond (bytes_eq w (codes "take")) (Some v.Take) (cond (bytes_eq w (codes "let")) (Some v.LetGo) None)))))))

abbrev pub read_line : Bytes → Option t.Call
read_line b =
    bind (name_word b) (λ n. bind (number_word most32 n.1) (λ s. bind (number_word most32 s.1) (λ m. ended (t.Read n.0 s.0 m.0) m.1)))

abbrev pub put_line : Bytes → Option t.Call
put_line b = bind (name_word b) (λ n. bind (expect_word n.1) (λ e. bind (hex_word e.1) (λ d. ended (t.Put n.0 d.0 e.0) d.1)))

abbrev pub patch_line : Bytes → Option t.Call
patch_line b =
    bind (name_word b) (λ n. bind (number_word most32 n.1) (λ a. bind (expect_word a.1) (λ e. bind (hex_word e.1) (λ d.
    ended (t.Patch n.0 a.0 d.0 e.0) d.1))))

abbrev pub remove_line : Bytes → Option t.Call
remove_line b = bind (name_word b) (λ n. bind (expect_word n.1) (λ e. ended (t.Remove n.0 e.0) e.1))

abbrev pub rename_line : Bytes → Option t.Call
rename_line b = bind (name_word b) (λ n. bind (name_word n.1) (λ k. ended (t.Rename n.0 k.0) k.1))

abbrev pub names_line : Bytes → Option t.Call
names_line b = bind (name_word b) (λ a. bind (number_word most16 a.1) (λ m. ended (t.Names a.0 m.0) m.1))

-- `take NAME`, or `take alone NAME`: a second word tells
abbrev pub take_line : Bytes → Option t.Call
take_line b =
    bind (word_in b) (λ w. cond (length w.1 == 0) (bind (name_word b) (λ n. Some (t.Take n.0 false)))
    (cond (bytes_eq w.0 (codes "alone")) (bind (name_word w.1) (λ n. ended (t.Take n.0 true) n.1)) None))

-- `let go NAME`
abbrev pub let_line : Bytes → Option t.Call
let_line b = bind (word_in b) (λ w. cond (bytes_eq w.0 (codes "go")) (bind (name_word w.1) (λ n. ended (t.LetGo n.0) n.1)) None)

abbrev pub call_line : Kind → Bytes → Option t.Call
call_line v.Read b = read_line b
call_line v.Put b = put_line b
call_line v.Patch b = patch_line b
call_line v.Remove b = remove_line b
call_line v.Rename b = rename_line b
call_line v.Names b = names_line b
call_line v.Take b = take_line b
call_line v.LetGo b = let_line b

-- VIEWS

-- a form with its names and bytes
abbrev pub formed : Scratch → Form → t.Call
formed s (f.Read start most) = t.Read (vec_items s.name) start most
formed s (f.Put e) = t.Put (vec_items s.name) (vec_items s.bytes) (expect_of e)
formed s (f.Patch at e) = t.Patch (vec_items s.name) at (vec_items s.bytes) (expect_of e)
formed s (f.Remove e) = t.Remove (vec_items s.name) (expect_of e)
formed s f.Rename = t.Rename (vec_items s.name) (vec_items s.other)
formed s (f.Names most) = t.Names (vec_items s.name) most
formed s (f.Take alone) = t.Take (vec_items s.name) alone
formed s f.LetGo = t.LetGo (vec_items s.name)
