-- The verdict on a table, from the check of its nodes.
use Rattle.std.proofs.Common.{◌≡◌, ℕ, zero, suc, ◌-◌, ◌<◌, ◌≤◌, Bool, ◌⊎◌, List, map, length, get_or, sym, refl, ap, ◌∙◌, subst, inl, inr, arith, Ok, Err, Result}
use native.Mathlib.Decide.{dec_lt}
use Rattle.std.specs.List.{position}
use Rattle.std.specs.Option.{unwrap_or}
use Rattle.std.proofs.lemmas.List.{ext_get_or, get_or-map, get_or_past, get_or_read, length-map}
use Rattle.expression.specs.declared.fault.TableFault.{TableFault}
use Rattle.expression.specs.declared.fault.TableFault.TheVariants as fault
use Rattle.expression.specs.declared.node.Node.{Node}
use Rattle.expression.specs.declared.raw.RawNode.{RawNode}
use Rattle.expression.specs.declared.raw.RawNode.TheVariants.{Letter, Unknown}
use Rattle.expression.specs.Checking.{lay, Told, mute}
use Rattle.expression.specs.Expressions.{Expr}
use Rattle.expression.specs.Nodes.{no_node, node, last, raw_of, expr_at}
use Rattle.expression.specs.Tables.{raw, letters_below, letter_count, Part, Denotes, Faulty, BreaksAt}
use Rattle.expression.specs.Verdicts.{Good, Sized, Faults, OneVerdict}
use Rattle.expression.proofs.Fitting.{few_to, fitted}
use Rattle.expression.proofs.Laying.{Sound, sound_at, stuck_at}
use Rattle.expression.proofs.Muting.{FirstMute, first_mute}
use Rattle.expression.proofs.Parts.{inside, same_part}
use Rattle.expression.proofs.Standing.{letters_same, part_at, stands}

-- A letter's node is one of the table.
letter_within : (ts : List RawNode) (i c : ℕ) → raw ts i ≡ Letter c → i < length ts
letter_within ts i c e = elim (dec_lt i (length ts)) [ yes l ↦ l | no f ↦ absurd (never (sym (get_or_past ts i (Unknown 0) (omega (arith, f))) ∙ e)) ]
  where
    never : Unknown 0 ≡ Letter c → ⊥
    never p = let z : ◌≡◌ {A = ℕ} 0 1 = cc in omega arith

-- Nodes that are laid are those of the table.
pub laid_table : (ts : List RawNode) (ns : List Node) → Sound ts (length ts) ns → map raw_of ns ≡ ts
laid_table ts ns s =
    ext_get_or (Unknown 0) (map raw_of ns) ts (length-map ns raw_of ∙ s.long)
    (λ i h. let l : i < length ns = omega (arith, length-map ns raw_of) in get_or-map raw_of ns i no_node (Unknown 0) l ∙ sym (s.agree i l))

-- What was read of a node, whatever stands past the end.
pub read_start : (ns : List Node) (i : ℕ) (x : Node) → i < length ns → x ≡ get_or ns i x → (node ns i).start ≡ x.start
read_start ns i x h e = ap (λ y. y.start) (sym (get_or_read ns i x h e no_node))

-- The verdict on a table whose first node without a letter is m.
module _ (give : ℕ → Bool) (ts : List RawNode) (m : ℕ) (first : FirstMute give ts m) (sized : Sized ts) where
  clear_below : (ns : List Node) → lay ts m ≡ Ok ns → (j : ℕ) → j < m → BreaksAt give ts j → ⊥
  clear_below ns e j h b = (sound_at ts m ns e).clear give first.before j h b.1

  pub stuck_breaks : (i : ℕ) → lay ts m ≡ Err i → Faults give ts (fault.Breaks i)
  stuck_breaks i e =
      let s = stuck_at ts m i e in
      (sized, (omega (arith, s.below, first.within), s.faulty give), λ j h b. s.clear give (λ k c l. first.before k c (omega (arith, s.below))) j h b.1)

  pub mute_breaks : (ns : List Node) → lay ts m ≡ Ok ns → m < length ts → Faults give ts (fault.Breaks m)
  mute_breaks ns e h =
      let t = first.mute h in
      (sized, (h, subst (Faulty give ts m) (sym t.1) (inl t.2)), clear_below ns e)

  pub told : (f : TableFault) → Told (lay ts m) f → (f ≡ fault.NoMemory) ⊎ Faults give ts f
  told fault.Empty t = absurd t
  told fault.TooLong t = absurd t
  told (fault.Breaks i) t = inr (stuck_breaks i t)
  told (fault.Unfinished n) t = absurd t
  told fault.NoMemory t = inl refl

  module _ (ns : List Node) (e : lay ts m ≡ Ok ns) (all : length ts ≤ m) where
    pub sound : Sound ts (length ts) ns
    sound = let z : m ≡ length ts = omega (arith, first.within) in subst (λ k. Sound ts k ns) z (sound_at ts m ns e)

    clear : (j : ℕ) → BreaksAt give ts j → ⊥
    clear j b = clear_below ns e j (omega (arith, b.0)) b

    -- The last node's part.
    root : Part ts (node ns (length ts - 1)).start (length ts) (expr_at ns (length ts - 1))
    root =
        let s = sound in
        let l : length ts - 1 < length ns = omega (arith, s.long, sized.0) in
        let z : suc (length ts - 1) ≡ length ts = omega (arith, sized.0) in
        part_at ts refl z (stands ns ts (fitted ns s.fits) s.agree (length ts - 1) l).part

    pub unfinished : ((node ns (length ts - 1)).start ≡ 0 → ⊥) → Faults give ts (fault.Unfinished (length ts))
    unfinished f = (sized, refl, clear, λ x d. f (same_part ts root d).0)

    pub good : (node ns (length ts - 1)).start ≡ 0 → Good give ts (expr_at ns (last ns))
    good z =
        let s = sound in
        let n = letters_same ns ts (fitted ns s.fits) s.agree (length ts) (omega (arith, s.long)) in
        let k = few_to ns s.fits (length ts) (λ j h. fitted ns s.fits j (omega (arith, s.long))) in
        record {
          some = sized.0;
          short = sized.1;
          few = omega arith;
          lettered = λ i c q. first.before i c (let l = letter_within ts i c q in omega arith) q;
          denotes = subst (λ m. Denotes ts (expr_at ns (m - 1))) (sym s.long) (part_at ts z refl root);
        }

-- Every table is good or has a fault.
module _ (give : ℕ → Bool) (ts : List RawNode) where
  abbrev Verdict : Type 0
  Verdict = ((e : Expr) × Good give ts e) ⊎ ((f : TableFault) × Faults give ts f)

  judge_whole : (m : ℕ) (first : FirstMute give ts m) (sized : Sized ts) (ns : List Node) → lay ts m ≡ Ok ns → length ts ≤ m → (k : ℕ) → (node ns (length ts - 1)).start ≡ k → Verdict
  judge_whole m first sized ns e all zero z = inl (expr_at ns (last ns), good give ts m first sized ns e all z)
  judge_whole m first sized ns e all (suc k) z = inr (fault.Unfinished (length ts), unfinished give ts m first sized ns e all (λ y. omega arith))

  judge_laid : (m : ℕ) (first : FirstMute give ts m) (sized : Sized ts) (o : Result (List Node) ℕ) → lay ts m ≡ o → Verdict
  judge_laid m first sized (Err i) e = inr (fault.Breaks i, stuck_breaks give ts m first sized i e)
  judge_laid m first sized (Ok ns) e =
      elim (dec_lt m (length ts)) [
        | yes h ↦ inr (fault.Breaks m, mute_breaks give ts m first sized ns e h)
        | no f ↦ judge_whole m first sized ns e (omega (arith, f)) _ refl
      ]

  pub verdict : Verdict
  verdict =
      elim (dec_lt 0 (length ts)) [
        | yes p ↦ elim (dec_lt 255 (length ts)) [
          | yes q ↦ inr (fault.TooLong, q)
          | no f ↦ let m = unwrap_or (position (mute give) ts) (length ts) in judge_laid m (first_mute give ts) (p, omega (arith, f)) (lay ts m) refl
        ]
        | no f ↦ inr (fault.Empty, omega (arith, f))
      ]

letters_rise : (ts : List RawNode) (i j : ℕ) → i ≤ j → letters_below ts i ≤ letters_below ts j
letters_rise ts i zero h = let z : i ≡ 0 = omega arith in rw z (omega arith)
letters_rise ts i (suc j) h = elim (dec_lt j i) [ yes l ↦ let z : i ≡ suc j = omega arith in rw z (omega arith) | no f ↦ let r = letters_rise ts i j (omega (arith, f)) in omega arith ]

-- A good table does not break, so it has no fault; and no table has two.
module _ (give : ℕ → Bool) (ts : List RawNode) where
  good_letter : (e : Expr) → Good give ts e → (i c : ℕ) → i < length ts → raw ts i ≡ Letter c → Faulty give ts i (Letter c) → ⊥
  good_letter e g i c h q (inl f) = let t = g.lettered i c q in let z : ◌≡◌ {A = ℕ} 0 1 = cc in omega arith
  good_letter e g i c h q (inr f) =
      let r = letters_rise ts (suc i) (length ts) h in
      let k : letter_count (raw ts i) ≡ 1 = ap letter_count q in
      omega (arith, g.few)

  pub apart : (e : Expr) → Good give ts e → (f : TableFault) → Faults give ts f → ⊥
  apart e g fault.Empty t = omega (arith, g.some)
  apart e g fault.TooLong t = omega (arith, g.short)
  apart e g (fault.Breaks i) t = inside give ts g.denotes i (omega arith) t.1.0 (λ c. good_letter e g i c t.1.0) t.1.1
  apart e g (fault.Unfinished n) t = t.3 e g.denotes
  apart e g fault.NoMemory t = t

  lowest : (i j : ℕ) → Faults give ts (fault.Breaks i) → Faults give ts (fault.Breaks j) → i < j → ⊥
  lowest i j t u h = u.2 i h t.1

  pub same_fault : (f g : TableFault) → Faults give ts f → Faults give ts g → f ≡ g
  same_fault fault.Empty fault.Empty t u = refl
  same_fault fault.Empty fault.TooLong t u = absurd (omega arith)
  same_fault fault.Empty (fault.Breaks j) t u = absurd (omega (arith, u.0))
  same_fault fault.Empty (fault.Unfinished n) t u = absurd (omega (arith, u.0))
  same_fault fault.Empty fault.NoMemory t u = absurd u
  same_fault fault.TooLong fault.Empty t u = absurd (omega arith)
  same_fault fault.TooLong fault.TooLong t u = refl
  same_fault fault.TooLong (fault.Breaks j) t u = absurd (omega (arith, u.0))
  same_fault fault.TooLong (fault.Unfinished n) t u = absurd (omega (arith, u.0))
  same_fault fault.TooLong fault.NoMemory t u = absurd u
  same_fault (fault.Breaks i) fault.Empty t u = absurd (omega (arith, t.0))
  same_fault (fault.Breaks i) fault.TooLong t u = absurd (omega (arith, t.0))
  same_fault (fault.Breaks i) (fault.Breaks j) t u =
      let l = lowest i j t u in
      let r = lowest j i u t in
      let e : i ≡ j = omega arith in
      ap fault.Breaks e
  same_fault (fault.Breaks i) (fault.Unfinished n) t u = absurd (u.2 i t.1)
  same_fault (fault.Breaks i) fault.NoMemory t u = absurd u
  same_fault (fault.Unfinished n) fault.Empty t u = absurd (omega (arith, t.0))
  same_fault (fault.Unfinished n) fault.TooLong t u = absurd (omega (arith, t.0))
  same_fault (fault.Unfinished n) (fault.Breaks j) t u = absurd (t.2 j u.1)
  same_fault (fault.Unfinished n) (fault.Unfinished k) t u = ap fault.Unfinished (t.1 ∙ sym u.1)
  same_fault (fault.Unfinished n) fault.NoMemory t u = absurd u
  same_fault fault.NoMemory g t u = absurd t

pub one_verdict : OneVerdict
one_verdict give ns = record {
  verdict = verdict give ns;
  apart = apart give ns;
  one_good = λ e e' g g'. (same_part ns g.denotes g'.denotes).1;
  one_fault = same_fault give ns;
}
