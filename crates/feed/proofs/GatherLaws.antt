-- One letter more in the buffer, and the last.
use Rattle.std.proofs.Common.{◌≡◌, ℕ, ◌+◌, ◌<◌, ◌≤◌, List, [], ◌∷◌, ◌++◌, length, get_or, take, drop, set, Option, Some, None, Result, Ok, sym, ap, ◌∙◌, subst, append_assoc, arith, length-drop}
use Rattle.std.specs.Prelude.{All}
use Rattle.std.proofs.lemmas.List.{drop_more, drop_all, take_more, take_all, set_at, length-take, length-take-le, drop-append-le, take-append-drop}
use Rattle.std.proofs.lemmas.Grind.{common_steps}
use Rattle.std.proofs.lemmas.List.Elements.{All-more}
use Rattle.feed.specs.declared.fault.Fault.{Fault}
use Rattle.feed.specs.declared.gathering.Ungathered.{Ungathered}
use Rattle.feed.specs.Gathering.{TookAfter, gathered, over, with_ending}

-- After the first n letters of w, which stand in the buffer b, comes l, and then v.
module _ {L : Type 0} (w b x : List L) (n : ℕ) (l : L) (v : List L) (s : x ≡ drop n w) (e : x ≡ l ∷ v) where
  next : (n < length w) × (get_or w n l ≡ l) × (v ≡ drop (n + 1) w)
  next = let size = length-drop n w in let more = drop_more w n l in grind (arith, common_steps)

  next_take : take (n + 1) w ≡ take n w ++ (l ∷ [])
  next_take = take_more w n l next.0 ∙ ap (λ y. take n w ++ (y ∷ [])) next.1

  pub more_within : n + 1 ≤ length w
  more_within = omega (arith, next.0)

  pub more_left : v ≡ drop (n + 1) w
  more_left = next.2

  pub more_buffer : (c : List L) → c ≡ take n w ++ drop n b → n < length b → set c n l ≡ take (n + 1) w ++ drop (n + 1) b
  more_buffer c q h =
      let m = next.0 in
      ap (λ t. set t n l) (q ∙ ap (λ r. take n w ++ r) (drop_more b n l h)) ∙ set_at (take n w) (get_or b n l) (drop (n + 1) b) l n (length-take-le n w (omega arith)) ∙ sym (append_assoc (take n w) (l ∷ []) (drop (n + 1) b)) ∙ ap (λ t. t ++ drop (n + 1) b) (sym next_take)

  pub more_ranged : (p : L → Type 0) → All p (take n w) → p l → All p (take (n + 1) w)
  more_ranged p es q = All-more p w n l next.0 es (subst p (sym next.1) q)

-- All of w is taken, n letters, which the buffer b has room for.
module _ {L : Type 0} (w b x : List L) (n : ℕ) (s : x ≡ drop n w) (e : x ≡ []) (hw : n ≤ length w) (hm : n ≤ length b) where
  all : n ≡ length w
  all = omega (arith, ap length (sym s ∙ e), length-drop n w)

  first : take n w ≡ take (length b) w
  first = let k = all in take_all n w (omega arith) ∙ sym (take_all (length b) w (omega arith))

  pub ended_buffer : (c : List L) → c ≡ take n w ++ drop n b → c ≡ over (take (length b) w) b
  ended_buffer c q = q ∙ ap (λ k. take n w ++ drop k b) (sym (length-take-le n w hw)) ∙ ap (λ t. over t b) first

  pub ended_left : (v : List L) → v ≡ [] → v ≡ drop (length b + 1) w
  ended_left v q = let k = all in q ∙ sym (drop_all (length b + 1) w (omega arith))

  pub ended_answer : (d f : Option Fault) (r : Result ℕ Ungathered) → d ≡ f → with_ending n d ≡ r → r ≡ gathered w f (length b)
  ended_answer d f r p q = let k = all in let z : with_ending n f ≡ r = ap (with_ending n) (sym p) ∙ q in grind arith

  pub ended_ranged : (p : L → Type 0) → All p (take n w) → All p (take (length b) w)
  ended_ranged p es = subst (All p) first es

-- What a take answered, once its option is known.
pub took_none : {L : Type 0} (n : ℕ) (x v : List L) (f : Option Fault) (o : Option L) → o ≡ None → TookAfter n x f (Ok o) v → TookAfter n x f (Ok None) v
took_none n x v f o e t = subst (λ z. TookAfter n x f (Ok z) v) e t

pub took_some : {L : Type 0} (n : ℕ) (x v : List L) (f : Option Fault) (o : Option L) (l : L) → o ≡ Some l → TookAfter n x f (Ok o) v → x ≡ l ∷ v
took_some n x v f o l e t = subst (λ z. TookAfter n x f (Ok z) v) e t

-- The letters over a part of the buffer, and the rest of the buffer after it.
pub over_part : {L : Type 0} (xs b : List L) (m : ℕ) → length xs ≤ m → m ≤ length b → over xs (take m b) ++ drop m b ≡ over xs b
over_part xs b m h k =
    let room : length xs ≤ length (take m b) = rw (length-take-le m b k) h in
    append_assoc xs (drop (length xs) (take m b)) (drop m b) ∙ ap (λ t. xs ++ t) (sym (drop-append-le (length xs) (take m b) (drop m b) room) ∙ ap (drop (length xs)) (take-append-drop m b))

pub over_front : {L : Type 0} (w b c : List L) (m : ℕ) → m ≤ length b → c ≡ over (take (length (take m b)) w) (take m b) → c ++ drop m b ≡ over (take m w) b
over_front w b c m k e =
    let size = length-take-le m b k in
    let few : length (take m w) ≤ m = rw length-take (omega arith) in
    ap (λ t. t ++ drop m b) (e ∙ ap (λ j. over (take j w) (take m b)) size) ∙ over_part (take m w) b m few k
