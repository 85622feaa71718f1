use Rattle.std.proofs.Common.{◌≡◌, map, refl, ap, ◌∙◌, inl, inr, rules}
use Rattle.std.proofs.lemmas.List.{length-map}
use Rattle.std.specs.Slice.Iter.{iter_rest}
use Rattle.std.specs.Iterator.Adapters.{zip_first}
use Rattle.matching.proofs.WalkLaws.{row_there, on_start, on_leads, on_step, on_end, both_end, gone_as}
use Rattle.matching.proofs.walk.walk.Goals as goal

pub slice_bounds-chunks-count : goal.slice_bounds-chunks-count
slice_bounds-chunks-count g c =
    row_there c.args.layout.now c.row_width-width.result c.row_width-width.ensures.is (map g.K.Kind.coded c.args.letters.now) c.args.work.now c.requires.table

pub slice_bounds-chunks-start : goal.slice_bounds-chunks-start
slice_bounds-chunks-start g c =
    let there = row_there c.args.layout.now c.row_width-width.result c.row_width-width.ensures.is (map g.K.Kind.coded c.args.letters.now) c.args.work.now c.requires.table in search rules

pub loop-letter-init : goal.loop-letter-init
loop-letter-init g c =
    let all : iter_rest (zip_first c.into_iter-letter-iterator.result) ≡ c.args.letters.now = cc in
    record {
      chunked = cc;
      on =
          on_start c.args.layout.now c.row_width-width.result c.row_width-width.ensures.is (map g.K.Kind.coded c.args.letters.now) c.args.work.now _ _
          c.requires.table (cc) (ap (map g.K.Kind.coded) all) c.requires.alive _;
    }

pub loop-letter-preserved : goal.loop-letter-preserved
loop-letter-preserved g c =
    let st = c.in-Some.ensures.steps in
    let inv = c.loop-letter.invariant in
    record {
      chunked = st.1.0 ∙ inv.chunked;
      on =
          on_step c.args.layout.now c.row_width-width.result c.row_width-width.ensures.is (map g.K.Kind.coded c.args.letters.now) inv.on (ap (map g.K.Kind.coded) st.0)
          _ _ st.1.1.0 (rw inv.chunked at st.1.1.1) (gone_as c.loop-letter.place refl c.code.ensures refl c.next_place.ensures) c.unwrap-place.ensures;
    }

pub unwrap-place-requires : goal.unwrap-place-requires
unwrap-place-requires g c =
    let st = c.in-Some.ensures.steps in
    let inv = c.loop-letter.invariant in
    on_leads c.args.layout.now c.row_width-width.result c.row_width-width.ensures.is (map g.K.Kind.coded c.args.letters.now) inv.on (ap (map g.K.Kind.coded) st.0)
    _ _ st.1.1.0 (rw inv.chunked at st.1.1.1) (gone_as c.loop-letter.place refl c.code.ensures refl c.next_place.ensures)

pub returns : goal.returns
returns g c =
    let w = map g.K.Kind.coded c.args.letters.now in
    let on = c.loop-letter.invariant.on in
    let e = c.nowhere.ensures in
    let ended =
    both_end c.args.layout.now c.row_width-width.result c.row_width-width.ensures.is w on
    (elim c.in-None.ensures.steps [ inl h ↦ inl (length-map (iter_rest (zip_first c.loop-letter.letter-iterator)) g.K.Kind.coded ∙ h.1.0) | inr h ↦ inr h.1.1.0 ]) in
    on_end c.args.layout.now c.row_width-width.result c.row_width-width.ensures.is w on ended (rw length-map c.requires.short) (gone_as c.loop-letter.place e.layout e.code e.next c.step.ensures)
    refl _ (λ h. search rules)
