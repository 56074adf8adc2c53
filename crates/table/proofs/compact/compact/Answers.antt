use Rattle.std.proofs.Common.{◌≡◌, List, length, take, vec_items, sym, ap, ◌∙◌}
use Rattle.std.proofs.lemmas.List.{with_items_is, length-map}
use Rattle.promise.specs.Sheets.{Sheet}
use Rattle.table.specs.View.{sheet_of}
use Rattle.table.specs.Packing.{Packed, Compacted}
use Rattle.table.proofs.Parts.{moved2}
use Rattle.table.proofs.Packs.{cut_off}
use Rattle.table.proofs.compact.compact.Goals as goal

pub returns-clause-packed : goal.returns-clause-packed
returns-clause-packed c =
    let v = c.args.log.now in
    let w = c.args.heads.now in
    let p : Packed (vec_items v) (vec_items w) c.pack-used.new.mem c.pack-used.new.heads c.pack-used.result =
    moved2 (λ m hs. Packed m hs c.pack-used.new.mem c.pack-used.new.heads c.pack-used.result) c.as_mut_slice.ensures.value c.as_mut_slice-2.ensures.value c.pack-used.ensures in
    let n : length c.pack-used.new.heads ≡ length (vec_items w) = sym (length-map c.pack-used.new.heads (sheet_of c.pack-used.new.mem)) ∙ ap (λ (l : List Sheet). length l) p.same ∙ length-map (vec_items w) (sheet_of (vec_items v)) in
    let q : vec_items c.truncate.new.self ≡ take c.pack-used.result c.pack-used.new.mem = c.truncate.ensures.items ∙ ap (take c.pack-used.result) (with_items_is v c.pack-used.new.mem (p.long ∙ sym v.ok.0)) in
    moved2 (Compacted (vec_items v) (vec_items w)) (sym q) (sym (with_items_is w c.pack-used.new.heads (n ∙ sym w.ok.0))) (cut_off (vec_items v) (vec_items w) c.pack-used.new.mem c.pack-used.new.heads c.pack-used.result p)
