use Rattle.std.proofs.Common.{List, [], ◌∷◌, refl, ap, ◌∙◌}
use Rattle.promise.specs.Bytes.{Bytes}
use Rattle.promise.specs.Desks.{Does, To}
use Rattle.asking.specs.Desk as m
use Rattle.desk_side.specs.Outputs.{outs_of}
use Rattle.desk_side.specs.View.{requests_in, greeting_in}
use Rattle.desk_side.proofs.memory.Memory.greet.Goals as goal

pub returns : goal.returns
unfolding m.spoke_by
returns c = λ b.
    let ps : List Bytes = requests_in c.args.self.now.requests in
    let g : Bytes = greeting_in c.write.new.self in
    record {
      knows = refl;
      does = ap (outs_of ps g b) c.put_alone.ensures ∙ ap (λ (x : Does Bytes). x ∷ []) (c.requires.greeting ps g b ∙ ap (λ (y : Bytes). To 0 y) c.write.ensures);
    }
