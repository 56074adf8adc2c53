use Rattle.std.proofs.Common.{◌≡◌, true, false, not, ◌&&◌, ◌==◌, rules}
use Rattle.desk_side.specs.View.{desk_of}
use Rattle.desk_side.proofs.Heard.{welcome_mine, welcome_other}
use Rattle.desk_side.proofs.state.Asking.hear_welcome.Goals as goal

pub returns-then-not-is_mine : goal.returns-then-not-is_mine
returns-then-not-is_mine c = λ ps t b.
    let other : (c.args.nonce.0 == c.args.self.now.nonce.0 && (not (c.args.session.0 == 0) && not c.args.self.now.answered)) ≡ false = search rules in
    welcome_other t c.args.session.0 _ (desk_of ps c.args.self.now) other

pub returns : goal.returns
returns c = λ ps t b.
    let mine : (c.args.nonce.0 == c.args.self.now.nonce.0 && (not (c.args.session.0 == 0) && not c.args.self.now.answered)) ≡ true = search rules in
    welcome_mine t c.args.session.0 _ (desk_of ps c.args.self.now) (desk_of ps c.adopt.result) mine (c.adopt.ensures ps)
