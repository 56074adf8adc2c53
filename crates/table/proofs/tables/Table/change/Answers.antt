use Rattle.std.proofs.Common.{refl, ◌≡◌, ℕ, Bool, ◌⊎◌, List, Bor, sym, ap, ◌∙◌, inl, inr}
use Rattle.promise.specs.Sheets.{State, Out, no, not_built, core, reply_to, left_by}
use Rattle.table.specs.Tables.{change_of, state_of}
use Rattle.table.specs.declared.tables.changes.Change.{Change}
use Rattle.table.specs.declared.tables.changes.Change.TheVariants.{Rename, Take, LetGo}
use Rattle.table.proofs.tables.Table.change.Goals as goal

-- what a change is answered and leaves, where only the core is built
abbrev core_out : (room d : ℕ) → Change → State → Out
core_out room d q s = record { reply = reply_to core room d (change_of q) s; state = left_by core room d (change_of q) s }

pub returns-in-Put : goal.returns-in-Put
unfolding core
returns-in-Put c =
    let o : _ = c.put.ensures.does c.args.desk.0 ∙ sym (ap (λ (q : Change). core_out c.args.self.now.room c.args.desk.0 q (state_of c.args.self.now)) c.in-Put.is) in
    record { answer = ap (λ (x : Out). x.reply) o; left = record { state = ap (λ (x : Out). x.state) o; room = c.put.ensures.room } }

pub returns-in-Patch : goal.returns-in-Patch
unfolding core
returns-in-Patch c =
    let o : _ = c.patch.ensures.does c.args.desk.0 ∙ sym (ap (λ (q : Change). core_out c.args.self.now.room c.args.desk.0 q (state_of c.args.self.now)) c.in-Patch.is) in
    record { answer = ap (λ (x : Out). x.reply) o; left = record { state = ap (λ (x : Out). x.state) o; room = c.patch.ensures.room } }

pub returns-in-Remove : goal.returns-in-Remove
unfolding core
returns-in-Remove c =
    let o : _ = c.remove.ensures.does c.args.desk.0 ∙ sym (ap (λ (q : Change). core_out c.args.self.now.room c.args.desk.0 q (state_of c.args.self.now)) c.in-Remove.is) in
    record { answer = ap (λ (x : Out). x.reply) o; left = record { state = ap (λ (x : Out). x.state) o; room = c.remove.ensures.room } }

-- what is not built is turned away
unbuilt : (room d : ℕ) (q : Change) (s : State) → ((x : Bor (List ℕ)) × (y : Bor (List ℕ)) × (q ≡ Rename x y)) ⊎ (((x : Bor (List ℕ)) × (y : Bool) × (q ≡ Take x y)) ⊎ ((x : Bor (List ℕ)) × (q ≡ LetGo x))) → no not_built s ≡ core_out room d q s
unfolding core
unbuilt room d q s (inl (x, y, e)) = sym (ap (λ (c : Change). core_out room d c s) e)
unbuilt room d q s (inr (inl (x, y, e))) = sym (ap (λ (c : Change). core_out room d c s) e)
unbuilt room d q s (inr (inr (x, e))) = sym (ap (λ (c : Change). core_out room d c s) e)

pub returns-in-Rename : goal.returns-in-Rename
returns-in-Rename c =
    let o : _ = unbuilt c.args.self.now.room c.args.desk.0 c.args.change (state_of c.args.self.now) c.in-Rename.is in
    record { answer = ap (λ (x : Out). x.reply) o; left = record { state = ap (λ (x : Out). x.state) o; room = refl } }
