-- Reading token by token: what is still wanted, and how many nodes may still open. This file serves the proofs only.
use Rattle.std.specs.Prelude.{◌≡◌, ℕ, zero, suc, pred, Bool, true, false, if◌then◌else◌, List, [], ◌∷◌, ◌++◌, Some, None, Option, ◌==◌, nat_lt}
use Rattle.std.specs.Str.{bytes_eq}
use Rattle.script.specs.Dialects.{Dialect, mark_word, mark_size, code_named}
use Rattle.script.specs.Forms.{is_none, is_pair, is_or, is_star, is_lodge}
use Rattle.script.specs.Tokens.{Token, sign, word, number, opening, closing, same, Placed}
use Rattle.script.specs.declared.fault.TokenFault.TheVariants.{BadByte, TooLarge}
use Rattle.script.specs.declared.fault.FormFault.{FormFault}
use Rattle.script.specs.declared.fault.FormFault.TheVariants.{Token as OfToken, Misfit, TooManyNodes, NoMemory}
use Rattle.script.specs.declared.name.FormName.{FormName}
use Rattle.script.specs.declared.name.FormName.TheVariants.{Lodge}
use Rattle.script.specs.declared.name.Name.{Name}
use Rattle.script.specs.declared.name.Name.TheVariants.{Mark, Nothing, Pair, Or, Star}

-- What is wanted next.
pub data Want : Type 0 where
  -- an expression
  an_expr : Want
  -- an expression after its opening bracket
  a_name : Want
  -- the end of a mark: so many more numbers after these, and the closing bracket
  more : ℕ → List ℕ → Want
  -- a sign
  the : ℕ → Want
  -- a form after its opening bracket
  a_head : Want

-- The name of an expression.
abbrev pub name_of : Dialect → List ℕ → Option Name
name_of d w =
    if bytes_eq w (mark_word d) then Some Mark
    else if bytes_eq w is_none then Some Nothing
    else if bytes_eq w is_pair then Some Pair
    else if bytes_eq w is_or then Some Or
    else if bytes_eq w is_star then Some Star
    else None

-- What is wanted after a name.
abbrev pub wanted : Dialect → Name → List Want → List Want
wanted d Mark k = more (mark_size d) [] ∷ k
wanted d Nothing k = the 41 ∷ k
wanted d Pair k = an_expr ∷ (an_expr ∷ (the 41 ∷ k))
wanted d Or k = an_expr ∷ (an_expr ∷ (the 41 ∷ k))
wanted d Star k = an_expr ∷ (the 41 ∷ k)

abbrev pub after_name : Dialect → Option Name → List Want → Option (List Want)
after_name d (Some x) k = Some (wanted d x k)
after_name d None k = None

-- The name of a form.
abbrev pub head_of : List ℕ → Option FormName
head_of w = if bytes_eq w is_lodge then Some Lodge else None

-- What is wanted after the name of a form.
abbrev pub headed : FormName → List Want → List Want
headed Lodge k = an_expr ∷ (the 41 ∷ (the 10 ∷ k))

abbrev pub after_head : Option FormName → List Want → Option (List Want)
after_head (Some x) k = Some (headed x k)
after_head None k = None

-- What is wanted after the token, where it fits the first want.
abbrev pub fit : Dialect → Want → Token → List Want → Option (List Want)
fit d an_expr t k = if same t opening then Some (a_name ∷ k) else None
fit d a_name (sign b) k = None
fit d a_name (word w) k = after_name d (name_of d w) k
fit d a_name (number n) k = None
fit d (more zero ns) t k = if same t closing then Some k else None
fit d (more (suc i) ns) (sign b) k = None
fit d (more (suc i) ns) (word w) k = None
fit d (more (suc i) ns) (number n) k = Some (more i (ns ++ n ∷ []) ∷ k)
fit d (the b) t k = if same t (sign b) then Some k else None
fit d a_head (sign b) k = None
fit d a_head (word w) k = after_head (head_of w) k
fit d a_head (number n) k = None

abbrev pub fits : Dialect → List Want → Token → Option (List Want)
fits d [] t = None
fits d (w ∷ k) t = fit d w t k

abbrev pub start : List Want
start = the 40 ∷ (a_head ∷ [])

-- What one token leads to: going on, with the nodes left and what is wanted, or a fault at the token's place.
pub data Step : Type 0 where
  on : ℕ → List Want → Step
  off : (ℕ → FormFault) → Step

abbrev pub too_large : ℕ → FormFault
too_large p = OfToken (TooLarge p)

-- A number over 65,535.
abbrev pub large : Token → Bool
large (sign b) = false
large (word w) = false
large (number n) = nat_lt 65535 n

abbrev pub unnamed : Option ℕ → Bool
unnamed (Some c) = false
unnamed None = true

-- The token wanted closes a mark that names no letter.
abbrev pub odd : Dialect → List Want → Bool
odd d [] = false
odd d (an_expr ∷ k) = false
odd d (a_name ∷ k) = false
odd d (more zero ns ∷ k) = unnamed (code_named d ns)
odd d (more (suc i) ns ∷ k) = false
odd d (the b ∷ k) = false
odd d (a_head ∷ k) = false

-- The token wanted opens a node.
abbrev pub opening_node : List Want → Bool
opening_node [] = false
opening_node (an_expr ∷ k) = true
opening_node (a_name ∷ k) = false
opening_node (more i ns ∷ k) = false
opening_node (the b ∷ k) = false
opening_node (a_head ∷ k) = false

-- A node that opens is one less that may.
abbrev pub counted : ℕ → Bool → List Want → Step
counted left b k = if b then (if left == 0 then off TooManyNodes else on (pred left) k) else on left k

-- A token that fits, by the limits; k' is wanted after it.
abbrev pub limited : Dialect → ℕ → List Want → Token → List Want → Step
limited d left k t k' = if large t then off too_large else if odd d k then off Misfit else counted left (opening_node k) k'

abbrev pub fitted : Dialect → ℕ → List Want → Token → Option (List Want) → Step
fitted d left k t None = off Misfit
fitted d left k t (Some k') = limited d left k t k'

abbrev pub step : Dialect → ℕ → List Want → Token → Step
step d left k t = fitted d left k t (fits d k t)

-- Going on, or stopped by a fault.
pub data State : Type 0 where
  going : ℕ → List Want → State
  fault : FormFault → State

abbrev pub landed : ℕ → Step → State
landed p (on left k) = going left k
landed p (off f) = fault (f p)

abbrev pub next : Dialect → State → Placed → State
next d (fault f) t = fault f
next d (going left k) t = landed t.place (step d left k t.token)

abbrev pub walk : Dialect → State → List Placed → State
walk d s [] = s
walk d s (t ∷ ts) = walk d (next d s t) ts

abbrev pub judged : Dialect → List Placed → State
judged d ts = walk d (going 255 start) ts

-- The fault tells how the walk ends; where memory ran out it tells nothing.
abbrev pub Told : FormFault → State → Type 0
Told (OfToken (BadByte p)) s = ⊥
Told (OfToken (TooLarge p)) s = s ≡ fault (OfToken (TooLarge p))
Told (Misfit p) s = s ≡ fault (Misfit p)
Told (TooManyNodes p) s = s ≡ fault (TooManyNodes p)
Told NoMemory s = Unit {0}
