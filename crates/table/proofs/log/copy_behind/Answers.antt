use Rattle.std.proofs.Common.{◌∙◌, ◌+◌, ◌-◌, ◌++◌, take, replicate, vec_len, is_ok, if◌then◌else◌, ap}
use Rattle.table.proofs.Pastes.{copied_behind}
use Rattle.table.proofs.log.copy_behind.Goals as goal

pub returns-clause-items : goal.returns-clause-items
returns-clause-items c =
    let t = c.args.log.now in
    let u = c.len-at.result in
    let grown = c.resize.ensures.items ∙ ap (λ r. if is_ok r then take (u + c.args.len) t.items ++ replicate (u + c.args.len - vec_len t) 0 else t.items) c.unwrap.ensures in
    copied_behind t.items c.resize.new.self.items c.copy_within.new.self.items u (vec_len t) c.args.from c.args.n c.args.len c.len-at.ensures t.ok.0 c.requires.within c.requires.short grown c.copy_within.ensures.items
