use Rattle.std.proofs.Common.{ℕ, true, false, List, map, refl, sym, ap, ◌∙◌, arith}
use Rattle.ids.specs.declared.DeskId.{DeskId}
use Rattle.sessions.specs.Views.{known}
use Rattle.house_side.specs.Houses.{house_of}
use Rattle.house_side.specs.Lapses.{number, silent_from}
use Rattle.house_side.proofs.Ticks.{silent_next}
use Rattle.house_side.proofs.outbox.Outbox.lapse.Goals as goal
use Rattle.house_side.proofs.outbox.Outbox.lapse.Goals.{then-is_lapsed, else-is_lapsed}

pub loop-number-preserved : goal.loop-number-preserved
loop-number-preserved g c = elim c.if-is_lapsed.branch [
  | then-is_lapsed w ↦ rw w.self-is (record {
    desks = ap (λ (xs : List DeskId). map number xs) w.push_reserved.ensures.items ∙
        silent_next _ _ _ true c.loop-number.self.lapsed.items _ c.loop-number.auto.number c.loop-number-test.true refl c.loop-number.invariant.desks (sym w.if-is_lapsed.true ∙ c.is_lapsed.ensures);
    few = omega arith;
    to = cc;
    cap = cc;
  })
  | else-is_lapsed w ↦ rw w.self-is (record {
    desks = silent_next _ _ _ false c.loop-number.self.lapsed.items (record { 0 = c.loop-number.number }) c.loop-number.auto.number c.loop-number-test.true refl c.loop-number.invariant.desks (sym w.if-is_lapsed.false ∙ c.is_lapsed.ensures);
    few = omega arith;
    to = cc;
    cap = cc;
  })
]

pub returns-clause-desks : goal.returns-clause-desks
returns-clause-desks g c = c.loop-number.invariant.desks ∙ ap (λ (k : ℕ). silent_from c.args.clock.0 (house_of (g.S.Store.room c.args.table.now) (g.S.Store.state c.args.table.now) (known c.args.sessions.now)) 1 k) (omega arith)
