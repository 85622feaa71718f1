-- The check of a table, node by node: the nodes that it lays, or the first that breaks.
use Rattle.std.proofs.Common.{◌≡◌, ℕ, zero, suc, ◌-◌, ◌<◌, ◌≤◌, Bool, true, false, cond, eqb, ltb, ◌⊎◌, List, [], ◌∷◌, ◌++◌, length, take, drop, Some, None, Err, Option, Result, sym, refl, ap, ◌∙◌, subst, inl, inr, arith, ltb-false, eqb-true, Ok}
use Rattle.std.proofs.lemmas.List.{length_push, get_or_append_left, get_or_push, length-take-le, take-append-drop, take-append-le, take_at}
use Rattle.std.specs.Option.{ok_or, option_map}
use Rattle.expression.specs.declared.fault.TableFault.{TableFault}
use Rattle.expression.specs.declared.fault.TableFault.TheVariants as fault
use Rattle.expression.specs.declared.node.Node.{Node}
use Rattle.expression.specs.declared.node.Shape.{Shape}
use Rattle.expression.specs.declared.node.Shape.TheVariants as shape
use Rattle.expression.specs.declared.raw.RawNode.{RawNode}
use Rattle.expression.specs.declared.raw.RawNode.TheVariants.{Letter, Empty, Pair, Or, Star, Unknown}
use Rattle.expression.specs.Checking.{put, lay_on, lay, Told}
use Rattle.expression.specs.Making.{letters_of, over, last_one, last_two, next_node, Laid}
use Rattle.expression.specs.Nodes.{no_node, node, last, raw_of}
use Rattle.expression.specs.Tables.{raw, letters_below, OneEnds, TwoEnd, Faulty}
use Rattle.expression.proofs.Fitting.{pos, Made, made, raw_made, letters_at, fitted}
use Rattle.expression.proofs.Parts.{last_or_below}
use Rattle.expression.proofs.Standing.{letters_same, one_ends, two_end, no_two_end, no_one_ends, no_two_at_first}

-- The codes of the nodes below n give letters.
abbrev pub Lettered : (ℕ → Bool) → List RawNode → ℕ → Type 0
Lettered gives ts n = (j c : ℕ) → j < n → raw ts j ≡ Letter c → gives c ≡ true

-- No node below n breaks, if its codes give letters.
abbrev pub Clear : List RawNode → ℕ → Type 0
Clear ts n = (gives : ℕ → Bool) → Lettered gives ts n → (j : ℕ) → j < n → Faulty gives ts j (raw ts j) → ⊥

-- The nodes below n are laid.
pub record Sound (ts : List RawNode) (n : ℕ) (ns : List Node) : Type 0 where
  pub long : length ns ≡ n
  pub fits : Laid ns
  pub agree : (i : ℕ) → i < length ns → raw ts i ≡ raw_of (node ns i)
  pub clear : Clear ts n

-- Node i is the lowest that breaks.
pub record Stuck (ts : List RawNode) (n i : ℕ) : Type 0 where
  pub below : i < n
  pub faulty : (gives : ℕ → Bool) → Faulty gives ts i (raw ts i)
  pub clear : Clear ts i

abbrev pub Tells : List RawNode → ℕ → Result (List Node) ℕ → Type 0
Tells ts n (Ok ns) = Sound ts n ns
Tells ts n (Err i) = Stuck ts n i

-- One more node.
module _ (ns : List Node) (n : Node) where
  abbrev more : List Node
  more = ns ++ n ∷ []

  more_below : (i : ℕ) → i < length ns → node more i ≡ node ns i
  more_below i h = get_or_append_left ns (n ∷ []) no_node i h

  more_last : node more (length ns) ≡ n
  more_last = get_or_push ns n no_node (length ns) refl

  more_each : (P : ℕ → Node → Type 0) → ((i : ℕ) → i < length ns → P i (node ns i)) → P (length ns) n → (i : ℕ) → i < length more → P i (node more i)
  more_each P low top i h =
      last_or_below (λ k. P k (node more k)) (length ns) i (omega (arith, length_push ns n))
      (λ l. subst (P i) (sym (more_below i l)) (low i l)) (subst (P (length ns)) (sym more_last) top)

  more_laid : Laid ns → next_node ns (raw_of n) ≡ Some n → Laid more
  more_laid low top =
      more_each (λ i x. next_node (take i more) (raw_of x) ≡ Some x)
      (λ i h. let b : i ≤ length ns = omega arith in rw (take-append-le i ns (n ∷ []) b) (low i h))
      (rw (take_at ns (n ∷ []) (length ns) refl) top)

none_is : {A : Type 0} (x : A) → Some x ≡ None → ⊥
none_is x e = let z : ◌≡◌ {A = ℕ} 0 1 = cc in omega arith

when_none : {A : Type 0} (b : Bool) (x : A) → cond b (Some x) None ≡ None → b ≡ false
when_none true x e = absurd (none_is x e)
when_none false x e = refl

not_both : (b : Bool) → b ≡ true → b ≡ false → ⊥
not_both b p q = let z : ◌≡◌ {A = ℕ} 0 1 = cc in omega arith

-- The node after nodes that are laid.
module _ (ts : List RawNode) (ns : List Node) (n : ℕ) (s : Sound ts n ns) where
  counted : letters_of ns ≡ letters_below ts n
  counted =
      letters_at ns ns n s.long (λ j h. refl) ∙ letters_same ns ts (fitted ns s.fits) s.agree n (omega (arith, s.long))

  one : 0 < length ns → OneEnds ts n
  one p = let e : suc (last ns) ≡ n = omega (arith, s.long) in subst (OneEnds ts) e (one_ends ns ts (fitted ns s.fits) s.agree (last ns) (omega arith))

  two : 0 < length ns → 0 < (node ns (last ns)).start → TwoEnd ts n
  two p q = let e : suc (last ns) ≡ n = omega (arith, s.long) in subst (TwoEnd ts) e (two_end ns ts (fitted ns s.fits) s.agree (last ns) (omega arith) q)

  no_one : length ns ≡ 0 → OneEnds ts n → ⊥
  no_one z t = let e : n ≡ 0 = omega (arith, s.long) in no_one_ends ts (subst (OneEnds ts) e t)

  no_two : (length ns ≡ 0) ⊎ ((0 < length ns) × ((node ns (last ns)).start ≡ 0)) → TwoEnd ts n → ⊥
  no_two (inl z) t = let e : n ≡ 0 = omega (arith, s.long) in no_two_at_first ts (subst (TwoEnd ts) e t)
  no_two (inr z) t =
      let e : n ≡ suc (last ns) = omega (arith, s.long) in
      no_two_end ns ts (fitted ns s.fits) s.agree (last ns) (omega arith) z.1 (subst (TwoEnd ts) e t)

  -- A node that is made does not break.
  whole : (gives : ℕ → Bool) (r : RawNode) (x : Node) → ((c : ℕ) → r ≡ Letter c → gives c ≡ true) → Made ns r x → Faulty gives ts n r → ⊥
  whole gives (Letter c) x l m (inl f) = not_both (gives c) (l c refl) f
  whole gives (Letter c) x l m (inr f) = omega (arith, counted, m.0)
  whole gives Empty x l m f = f
  whole gives Pair x l m f = f (two m.0 m.1)
  whole gives Or x l m f = f (two m.0 m.1)
  whole gives Star x l m f = f (one m.0)
  whole gives (Unknown k) x l m f = m

  missing_one : option_map (λ j. over ns (shape.Star j) j) (last_one ns) ≡ None → length ns ≡ 0
  missing_one e = by (eqb (length ns) 0) refl e
    where
      by : (b : Bool) → eqb (length ns) 0 ≡ b → option_map (λ j. over ns (shape.Star j) j) (cond b None (Some (last ns))) ≡ None → length ns ≡ 0
      by true p q = eqb-true _ _ p
      by false p q = absurd (none_is _ q)

  missing_two : (sh : ℕ → ℕ → Shape) → option_map (λ (p : ℕ × ℕ). over ns (sh p.0 p.1) p.0) (last_two ns) ≡ None → (length ns ≡ 0) ⊎ ((0 < length ns) × ((node ns (last ns)).start ≡ 0))
  missing_two sh e = by (eqb (length ns) 0) (eqb (node ns (last ns)).start 0) refl refl e
    where
      by : (b d : Bool) → eqb (length ns) 0 ≡ b → eqb (node ns (last ns)).start 0 ≡ d
          → option_map (λ (p : ℕ × ℕ). over ns (sh p.0 p.1) p.0) (cond b None (cond d None (Some ((node ns (last ns)).start - 1, last ns)))) ≡ None
          → (length ns ≡ 0) ⊎ ((0 < length ns) × ((node ns (last ns)).start ≡ 0))
      by true d p q r = inl (eqb-true _ _ p)
      by false true p q r = inr (pos _ p, eqb-true _ _ q)
      by false false p q r = absurd (none_is _ r)

  -- One that is not made breaks.
  broken : (gives : ℕ → Bool) (r : RawNode) → next_node ns r ≡ None → Faulty gives ts n r
  broken gives (Letter c) e = inr (let t = ltb-false _ _ (when_none (ltb (letters_of ns) 128) _ e) in omega (arith, counted))
  broken gives Empty e = none_is _ e
  broken gives Pair e = no_two (missing_two shape.Pair e)
  broken gives Or e = no_two (missing_two shape.Or e)
  broken gives Star e = no_one (missing_one e)
  broken gives (Unknown k) e = tt

  tells_put : (o : Option Node) → next_node ns (raw ts n) ≡ o → Tells ts (suc n) (put ns n o)
  tells_put (Some x) e =
      let m = made ns (raw ts n) x e in
      let r = raw_made ns (raw ts n) x m in
      record {
        long = length_push ns x ∙ omega (arith, s.long);
        fits = more_laid ns x s.fits (rw r e);
        agree = more_each ns x (λ i y. raw ts i ≡ raw_of y) s.agree (rw s.long (sym r));
        clear = λ gives l j h. last_or_below (λ k. Faulty gives ts k (raw ts k) → ⊥) n j h
            (s.clear gives (λ k c b. l k c (omega arith)) j)
            (whole gives (raw ts n) x (λ c. l n c (omega arith)) m);
      }
  tells_put None e = record { below = omega arith; faulty = λ gives. broken gives (raw ts n) e; clear = s.clear }

module _ (ts : List RawNode) where
  tells_on : (n : ℕ) (o : Result (List Node) ℕ) → Tells ts n o → Tells ts (suc n) (lay_on n (raw ts n) o)
  tells_on n (Ok ns) s = tells_put ts ns n s (next_node ns (raw ts n)) refl
  tells_on n (Err i) s = record { below = omega (arith, s.below); faulty = s.faulty; clear = s.clear }

  -- What the check of the nodes below n tells of them.
  pub lay_tells : (n : ℕ) → Tells ts n (lay ts n)
  lay_tells zero = record { long = refl; fits = λ i h. absurd (omega arith); agree = λ i h. absurd (omega arith); clear = λ gives l j h. absurd (omega arith) }
  lay_tells (suc n) = tells_on n (lay ts n) (lay_tells n)

  pub sound_at : (n : ℕ) (ns : List Node) → lay ts n ≡ Ok ns → Sound ts n ns
  sound_at n ns e = subst (Tells ts n) e (lay_tells n)

  pub stuck_at : (n i : ℕ) → lay ts n ≡ Err i → Stuck ts n i
  stuck_at n i e = subst (Tells ts n) e (lay_tells n)

-- The check of the first nodes reads no others.
lay_first : (bs cs : List RawNode) (i : ℕ) → i ≤ length bs → lay (bs ++ cs) i ≡ lay bs i
lay_first bs cs zero h = refl
lay_first bs cs (suc i) h =
    ap (λ r. lay_on i r (lay (bs ++ cs) i)) (get_or_append_left bs cs (Unknown 0) i (omega arith))
    ∙ ap (lay_on i (raw bs i)) (lay_first bs cs i (omega arith))

pub lay_taken : (ts : List RawNode) (m : ℕ) → m ≤ length ts → lay (take m ts) (length (take m ts)) ≡ lay ts m
lay_taken ts m h =
    let l : length (take m ts) ≡ m = length-take-le m ts h in
    ap (lay (take m ts)) l ∙ sym (lay_first (take m ts) (drop m ts) m (omega arith)) ∙ ap (λ xs. lay xs m) (take-append-drop m ts)

pub lay_push : (bs : List RawNode) (x : RawNode) → lay (bs ++ x ∷ []) (length (bs ++ x ∷ [])) ≡ lay_on (length bs) x (lay bs (length bs))
lay_push bs x =
    let z : length (bs ++ x ∷ []) ≡ suc (length bs) = omega (arith, length_push bs x) in
    ap (lay (bs ++ x ∷ [])) z
    ∙ ap (λ r. lay_on (length bs) r (lay (bs ++ x ∷ []) (length bs))) (get_or_push bs x (Unknown 0) (length bs) refl)
    ∙ ap (lay_on (length bs) x) (lay_first bs (x ∷ []) (length bs) (omega arith))

-- The last step of the check of a table.
module _ (ts bs : List RawNode) (x : RawNode) (split : ts ≡ bs ++ x ∷ []) where
  lay_last : lay ts (length ts) ≡ lay_on (length bs) x (lay bs (length bs))
  lay_last = ap (λ xs. lay xs (length xs)) split ∙ lay_push bs x

  module _ (ns read : List Node) (o : Option Node) (e : lay bs (length bs) ≡ Ok ns) (same : read ≡ ns) (next : o ≡ next_node read x) where
    lay_put : lay ts (length ts) ≡ put ns (length bs) o
    lay_put = lay_last ∙ rw e (ap (put ns (length bs)) (sym (rw same at next)))

    pub lay_some : (n : Node) → o ≡ Some n → lay ts (length ts) ≡ Ok (ns ++ n ∷ [])
    lay_some n p = lay_put ∙ ap (put ns (length bs)) p

    pub lay_none : (f : TableFault) → o ≡ None → Err f ≡ ok_or o (fault.Breaks (length bs)) → Told (lay ts (length ts)) f
    lay_none f p q =
        let r : ◌≡◌ {A = Result Node TableFault} (Err f) (Err (fault.Breaks (length bs))) = q ∙ ap (λ y. ok_or y (fault.Breaks (length bs))) p in
        let z : fault.Breaks (length bs) ≡ f = cc in
        subst (Told (lay ts (length ts))) z (lay_put ∙ rw p)

  pub told_on : (f : TableFault) → Told (lay bs (length bs)) f → Told (lay ts (length ts)) f
  told_on fault.Empty t = t
  told_on fault.TooLong t = t
  told_on (fault.Breaks i) t = lay_last ∙ rw t
  told_on (fault.Unfinished k) t = t
  told_on fault.NoMemory t = t
