use Rattle.std.proofs.Common.{◌≡◌, suc, ◌-◌, ◌<◌, length, sym, refl, ap, ◌∙◌, subst, arith, length-set}
use lib.ListN.{get_or-replicate}
use Rattle.containment.specs.Format.{rows_of}
use Rattle.containment.specs.Indexing.{Linked}
use Rattle.containment.proofs.Indexing.{linked_none, linked_more, at_start, start_in, place_low}
use Rattle.containment.proofs.index.Index.new.Goals as goal

pub loop-n-init : goal.loop-n-init
loop-n-init c =
    let e = c.note_starts-count.ensures.count in (
      refl,
      refl,
      subst (Linked (rows_of c.args.numbers.now) _ _) (sym e)
          (linked_none (rows_of c.args.numbers.now) _ _ (λ f b. get_or-replicate 129 f _ 0 b ∙ e)),
    )

pub bounds-numbers-from : goal.bounds-numbers-from
bounds-numbers-from c =
    start_in (rows_of c.args.numbers.now) c.args.numbers.now c.note_starts-count.new.starts c.requires c.note_starts-count.ensures.starts (c.loop-n.n - 1)
    (omega (arith, c.note_starts-count.ensures.count)) c.from.result c.from.ensures

pub link-requires-clause-place : goal.link-requires-clause-place
link-requires-clause-place c =
    let low =
    place_low (rows_of c.args.numbers.now) c.args.numbers.now c.note_starts-count.new.starts c.requires c.note_starts-count.ensures.starts (c.loop-n.n - 1)
    (omega (arith, c.note_starts-count.ensures.count)) c.from.result c.from.ensures in
    omega (arith, c.from-place.ensures)

pub loop-n-preserved : goal.loop-n-preserved
loop-n-preserved c =
    let rows = rows_of c.args.numbers.now in
    let lt : c.loop-n.n - 1 < length (rows_of c.args.numbers.now) = omega (arith, c.note_starts-count.ensures.count) in
    let few : c.loop-n.n - 1 < 8192 = omega (arith, c.note_starts-count.ensures.few) in
    let back : c.loop-n.n ≡ suc (c.loop-n.n - 1) = omega arith in
    let here =
    at_start rows c.args.numbers.now c.note_starts-count.new.starts c.requires c.note_starts-count.ensures.starts (c.loop-n.n - 1) lt c.from.result c.from.ensures in
    let low =
    place_low rows c.args.numbers.now c.note_starts-count.new.starts c.requires c.note_starts-count.ensures.starts (c.loop-n.n - 1) lt c.from.result c.from.ensures in (
      ap length c.link.ensures.next ∙ length-set c.loop-n.nexts _ _ ∙ c.loop-n.invariant.0,
      ap length c.link.ensures.first ∙ length-set c.loop-n.firsts _ _ ∙ c.loop-n.invariant.1,
      linked_more rows c.loop-n.nexts c.loop-n.firsts (c.loop-n.n - 1) (subst (Linked rows c.loop-n.nexts c.loop-n.firsts) back c.loop-n.invariant.2) lt c.loop-n.invariant.0
          c.loop-n.invariant.1 few c.from-place.result (sym (c.from-place.ensures ∙ here.place)) (omega (arith, c.from-place.ensures)) c.link.new.nexts c.link.new.firsts
          c.link.ensures.next c.link.ensures.first,
    )
