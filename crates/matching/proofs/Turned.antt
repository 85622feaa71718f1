-- Turns that are written one after the other.
use Rattle.std.proofs.Common.{◌≡◌, ℕ, Some, None, Option, List, [], ◌++◌, length, unwrap_or, sym, refl, ◌∙◌, add-zero, arith, length-append}
use Rattle.std.specs.Option.{option_map}
use Rattle.expression.proofs.Writing.{written_append}
use Rattle.matching.specs.Turned.{Wrote, Put}
use Rattle.matching.specs.Legs.{Leg, behind, Gone}
use Rattle.matching.specs.declared.turns.Turns.{Turns}

pub counted_all : {A : Type 0} (o : Option (List A)) → unwrap_or (option_map length o) 0 ≡ length (unwrap_or o [])
counted_all None = refl
counted_all (Some xs) = refl

wrote_wrote : {xs ys : List ℕ} {a b c : Turns} → Wrote xs a b → Wrote ys b c → Wrote (xs ++ ys) a c
wrote_wrote {xs} {ys} {a} {b} {c} p q = record {
  buffer = q.buffer ∙ rw (p.count, p.buffer) (sym (written_append xs ys a.count a.buffer.now));
  count = let x = q.count in let y = p.count in omega (arith, length-append xs ys);
}

pub put_put : {xs ys : List ℕ} {a b c : Turns} → Put xs a b → Put ys b c → Put (xs ++ ys) a c
put_put {xs} {ys} {a} {b} {c} p q = record {
  same = q.same ∙ p.same;
  wrote =
      λ h.
      let l = length-append xs ys in
      let x = p.wrote (omega arith) in
      let n = x.count in
      wrote_wrote x (q.wrote (omega arith));
}

pub put_none : (a : Turns) → Put [] a a
put_none a = record { same = refl; wrote = λ h. record { buffer = refl; count = sym (add-zero a.count) } }

pub gone_behind : {xs : List ℕ} {g : Leg} {o : _} {a b c : Turns} → Put xs a b → Gone g o b c → Gone (behind xs g) o a c
gone_behind p q = record { put = put_put p q.put; leads = q.leads }
