use Rattle.std.proofs.Common.{◌≡◌, ◌+◌, ◌++◌, length, vec_items, ◌∙◌, arith, rules}
use Rattle.std.proofs.lemmas.List.{append_assoc}
use Rattle.text.specs.Names.{name_text}
use Rattle.text.specs.Words.{spaced}
use Rattle.printing.proofs.Listing.{head_length, names_more, names_end}
use Rattle.printing.proofs.told.push_names.Goals as goal

pub loop-preserved : goal.loop-preserved
loop-preserved c =
    let written : vec_items c.write_name.new.out ≡ vec_items c.loop.out ++ spaced (name_text c.in-Some.name.now) = search (rules, append_assoc) in
    let whole : length c.in-Some.name.now + length c.in-Some.tail.now + 1 ≡ length c.loop.rest.now = head_length c.loop.rest.now (c.in-Some.name.now, c.in-Some.tail.now) c.in-Some.ensures in
    record {
      items = names_more (vec_items c.loop.out) (vec_items c.write_name.new.out) _ c.loop.rest.now c.args.count c.loop.counter (c.in-Some.name.now, c.in-Some.tail.now)
          c.loop-test.true c.in-Some.ensures c.loop.invariant.items written;
      len = omega (arith, c.loop.invariant.len, c.write_name.ensures.written.len, c.push_reserved.ensures.len);
      cap = c.write_name.ensures.written.cap ∙ (c.push_reserved.ensures.capacity ∙ c.loop.invariant.cap);
    }

pub returns-in_default : goal.returns-in_default
returns-in_default c =
    record {
      items = names_end (vec_items c.loop.out) _ c.loop.rest.now c.args.count c.loop.counter c.loop-test.true c.in_default.ensures c.loop.invariant.items;
      len = omega (arith, c.loop.invariant.len);
      cap = omega (arith, c.loop.invariant.cap);
    }
