-- The walk over all letters.
use Rattle.std.proofs.Common.{◌≡◌, ℕ, ◌+◌, ◌-◌, ◌*◌, ◌≤◌, true, ◌⊎◌, List, [], ◌∷◌, ◌++◌, length, get_or, take, drop, min, Some, None, Option, unwrap_or, inl, inr, sym, refl, ap, ◌∙◌, subst, is_some, append_assoc, add-mul, arith, length-append, length-drop}
use Rattle.std.proofs.lemmas.List.{get_or_append_left, drop_at, take_all, drop-append-le, nil_from_length}
use Rattle.expression.specs.Expressions.{Expr}
use Rattle.expression.specs.Coming.{size}
use Rattle.expression.specs.Spelling.{written}
use Rattle.expression.specs.Turns.{turns}
use Rattle.std.specs.Option.{option_map}
use Rattle.expression.specs.Places.{letter_count, Item, continuation, finishes}
use Rattle.expression.specs.Walks.{walk}
use Rattle.expression.specs.declared.layout.Layout.{Layout}
use Rattle.expression.proofs.FirstTree.{some_first}
use Rattle.expression.proofs.Walking.{walk_first}
use Rattle.matching.specs.Holding.{whole}
use Rattle.matching.specs.Outcomes.{longest}
use Rattle.matching.specs.Rows.{row, rows}
use Rattle.matching.specs.Passes.{usable, RowAt}
use Rattle.matching.specs.Turned.{blank, Put}
use Rattle.matching.specs.Legs.{leg, rest_turns, Gone}
use Rattle.matching.specs.Walked.{Tabled, Walked}
use Rattle.matching.specs.declared.turns.Turns.{Turns}
use Rattle.matching.proofs.Holding.{whole_small}
use Rattle.matching.proofs.Legs.{leads, walk_ended}
use Rattle.matching.proofs.Passes.{enters_none}
use Rattle.matching.proofs.RowLaws.{count_row, count_rows, rows_begin, usable_right}
use Rattle.matching.proofs.Turned.{put_put, put_none}
use Rattle.matching.proofs.Weights.{leg_light, rest_light}

-- Where no letter may come next, the leg passes over everything.
leg_none : (k : List Item) → (leg 0 (usable []) k).turned ≡ rest_turns k
leg_none [] = refl
leg_none (x ∷ k) = rw (enters_none 0 x.before x.expr) (ap (λ (l : List ℕ). blank x.expr ++ l) (leg_none k))

-- Legs with what is told of equal letters.
pub gone_as : {l l' : Layout} {a b : ℕ} {next next' : List ℕ} (p : ℕ) {q : Option ℕ} {u v : Turns} → l' ≡ l → b ≡ a → next' ≡ next → Gone (leg b (usable next') (continuation (whole l') p)) q u v
    → Gone (leg a (usable next) (continuation (whole l) p)) q u v
gone_as {l} {l'} {a} {b} {next} {next'} p {q} {u} {v} x y z g =
    subst (λ (k : List ℕ). Gone (leg a (usable k) (continuation (whole l) p)) q u v) z
    (subst (λ (c : ℕ). Gone (leg c (usable next') (continuation (whole l) p)) q u v) y (subst (λ (m : Layout). Gone (leg b (usable next') (continuation (whole m) p)) q u v) x g))

two_maps : (l m : List ℕ) (o : Option (List ℕ)) → option_map (λ r. l ++ r) (option_map (λ r. m ++ r) o) ≡ option_map (λ r. (l ++ m) ++ r) o
two_maps l m None = refl
two_maps l m (Some r) = ap {B = Option (List ℕ)} Some (sym (append_assoc l m r))

-- The letters `left` of w are left: the walk is at place p, the turns up to there were written, and `bytes` begins with the rows of the letters after each of those, each of k bytes.
pub record On (e : Expr) (w left : List ℕ) (k p : ℕ) (bytes : List ℕ) (old new : Turns) : Type 0 where
  pub turned : List ℕ
  pub put : Put turned old new
  pub goes_on : walk e w 0 ≡ option_map (λ r. turned ++ r) (walk e left p)
  pub alive : finishes e left p ≡ true
  pub within : p ≤ letter_count e
  pub low : length turned + length left * 65536 ≤ length w * 65536
  pub more : List ℕ
  pub rows_left : bytes ≡ drop k (rows e left) ++ more

module _ (m : Layout) (k : ℕ) (wide : k ≡ letter_count (whole m) + 1) (w : List ℕ) where
  abbrev e : Expr
  e = whole m

  small : size (whole m) ≤ 255
  small = whole_small m

  rows_long : (v : List ℕ) → k ≤ length (rows e v)
  rows_long v = let z = count_rows e v in let d = add-mul (length v) 1 k in omega (arith, ap (λ (n : ℕ). (length v + 1) * n) wide)

  pub row_there : (work : List ℕ) → Tabled e w work → k ≤ length work
  row_there work t = let z = rows_long w in omega (arith, ap length t.is, length-append (rows e w) t.rest)

  pub on_start : (work bytes left : List ℕ) → Tabled e w work → bytes ≡ take (length work - k) (drop k work) → left ≡ w → finishes e w 0 ≡ true → (u : Turns) → On e w left k 0 bytes u u
  on_start work bytes left t b l f u = rw l record {
    turned = [];
    put = put_none u;
    goes_on = same (walk e w 0);
    alive = f;
    within = omega arith;
    low = omega arith;
    more = t.rest;
    rows_left = b ∙ take_all (length work - k) (drop k work) (omega (arith, length-drop k work)) ∙ ap (drop k) t.is ∙ drop-append-le k (rows e w) t.rest (rows_long w);
  }
    where
      same : (o : Option (List ℕ)) → o ≡ option_map (λ r. [] ++ r) o
      same None = refl
      same (Some r) = refl

  module _ {left : List ℕ} {p : ℕ} {bytes : List ℕ} {old mid : Turns} (on : On (whole m) w left k p bytes old mid) where
    module _ {a : ℕ} {others : List ℕ} (left-is : left ≡ a ∷ others) where
      rest_is : bytes ≡ rows e others ++ on.more
      rest_is =
          on.rows_left ∙ ap (λ (v : List ℕ). drop k (rows e v) ++ on.more) left-is
          ∙ ap (λ (l : List ℕ). l ++ on.more) (drop_at (row e (a ∷ others)) (rows e others) k (let z = count_row e (a ∷ others) in omega arith))

      -- The rows do not end before the letters do.
      bytes_there : k ≤ length bytes
      bytes_there = let z = rows_long others in omega (arith, ap length rest_is, length-append (rows e others) on.more)

      module _ (chunk after : List ℕ) (cut : bytes ≡ chunk ++ after) (long : length chunk ≡ min k (length bytes)) where
        chunk_long : length chunk ≡ k
        chunk_long = let z = bytes_there in omega arith

        chunk_row : RowAt e others chunk
        chunk_row q h =
            sym (get_or_append_left chunk after 0 q (let z = chunk_long in omega arith)) ∙ ap (λ (l : List ℕ). get_or l q 0) (sym cut ∙ rest_is)
            ∙ rows_begin e others on.more q h

        -- A letter is left, so the step leads to one.
        pub on_leads : {q : Option ℕ} {new : Turns} → Gone (leg a (usable chunk) (continuation e p)) q mid new → is_some q ≡ true
        on_leads gone =
            let led = leads e a others (usable chunk) (usable_right e others chunk chunk_row) p (rw left-is at on.alive) in
            rw (gone.leads, led.place) refl

        pub on_step : {q : Option ℕ} {new : Turns} → Gone (leg a (usable chunk) (continuation e p)) q mid new → {to : ℕ} → q ≡ Some to → On e w others k to after old new
        on_step {q} {new} gone {to} back =
            let led = leads e a others (usable chunk) (usable_right e others chunk chunk_row) p (rw left-is at on.alive) in
            let here : to ≡ led.to = ap (λ (o : Option ℕ). unwrap_or o 0) (sym back ∙ gone.leads ∙ led.place) in
            let short = leg_light e small p a (usable chunk) in
            let low = on.low in
            let one = ap length left-is in
            record {
              turned = on.turned ++ (leg a (usable chunk) (continuation e p)).turned;
              put = put_put on.put gone.put;
              goes_on = on.goes_on ∙ rw (left-is, led.goes_on, here) (two_maps on.turned _ _);
              alive = rw here led.alive;
              within = rw here led.within;
              low = omega (arith, length-append on.turned (leg a (usable chunk) (continuation e p)).turned);
              more = on.more;
              rows_left =
                  sym (drop_at chunk after k chunk_long) ∙ ap (drop k) (sym cut ∙ rest_is) ∙ drop-append-le k (rows e others) on.more (rows_long others);
            }

    pub on_end : left ≡ [] → length w ≤ longest → {q : Option ℕ} {new : Turns} → Gone (leg 0 (usable []) (continuation e p)) q mid new → old.count ≡ 0 → (buffer : List ℕ) → (new.buffer.ghost_name ≡ old.buffer.ghost_name → buffer ≡ new.buffer.now)
        → Walked e w new.count old.buffer.now buffer
    on_end none short {q} {new} gone zero buffer back tree first =
        let whole-walk : option_map turns (Some tree) ≡ Some (on.turned ++ rest_turns (continuation e p)) =
        sym (walk_first e w ∙ ap (option_map turns) (some_first e w tree first)) ∙ on.goes_on ∙ rw (none, walk_ended e p (rw none at on.alive)) in
        let same : turns tree ≡ on.turned ++ rest_turns (continuation e p) = cc in
        let done : Put (turns tree) old new = rw (same, ← leg_none (continuation e p)) (put_put on.put gone.put) in
        let light = rest_light e small p in
        let low = on.low in
        let wrote = done.wrote (omega (arith, ap length same, length-append on.turned (rest_turns (continuation e p)))) in
        record { count = wrote.count ∙ ap (λ (n : ℕ). n + length (turns tree)) zero ∙ (let z : 0 + length (turns tree) ≡ length (turns tree) = omega arith in z); buffer = back done.same ∙ wrote.buffer ∙ ap (λ (n : ℕ). written (turns tree) n old.buffer.now) zero }

    -- One of the letters and the rows has ended, so the letters have.
    pub both_end : (length left ≡ 0) ⊎ (length bytes ≡ 0) → left ≡ []
    both_end (inl h) = nil_from_length left h
    both_end (inr h) = go left refl
      where
        go : (l : List ℕ) → left ≡ l → left ≡ []
        go [] q = q
        go (a ∷ others) q = absurd (let z = bytes_there q in omega arith)
