-- What reading a line says, in the words of the forms.
use Rattle.std.specs.Prelude.{◌≡◌, ℕ, ◌+◌, ◌<◌, if◌then◌else◌, List, [], ◌∷◌, ◌++◌, map, length, None}
use Rattle.script.specs.Bytes.{Known, Spoiled}
use Rattle.script.specs.Denoted.{Within, Holds}
use Rattle.script.specs.Dialects.{Dialect, mark_word, mark_size, code_named}
use Rattle.script.specs.Faults.{place}
use Rattle.script.specs.Forms.{Written, Formed, spelled, is_lodge}
use Rattle.script.specs.Tokens.{Token, word, number, opening, closing, same, Placed, bare, tokens}
use Rattle.script.specs.declared.fault.TokenFault.TheVariants.{BadByte, TooLarge}
use Rattle.script.specs.declared.fault.FormFault.{FormFault}
use Rattle.script.specs.declared.fault.FormFault.TheVariants.{Token as OfToken, Misfit, TooManyNodes, NoMemory}
use Rattle.script.specs.declared.form.Form.{Form}

-- Some form of the dialect begins with these tokens: of any size, with any numbers and any marks.
pub record Begins (d : Dialect) (ts : List Token) : Type 0 where
  pub form : Written
  pub formed : Formed d form
  pub rest : List Token
  pub spells : spelled d form ≡ ts ++ rest

-- How many opening brackets there are.
abbrev pub opens : List Token → ℕ
opens [] = 0
opens (t ∷ ts) = (if same t opening then 1 else 0) + opens ts

-- What is wrong with the token t at the place p, after the tokens before it.
pub data Wrong (d : Dialect) (before : List Token) (t : Token) (p : ℕ) : FormFault → Type 0 where
  -- Some form begins with what stands before it, and none with it.
  misfit : Begins d before → (Begins d (before ++ t ∷ []) → ⊥) → Wrong d before t p (Misfit p)
  -- A number over 65,535 where a number can stand.
  too_large : (n : ℕ) → t ≡ number n → 65535 < n → Begins d (before ++ t ∷ []) → Wrong d before t p (OfToken (TooLarge p))
  -- The bracket of the 256th node: 255 have opened after (lodge.
  too_many : (us : List Token) → t ≡ opening → Begins d (before ++ t ∷ []) → before ≡ opening ∷ (word is_lodge ∷ us) → opens us ≡ 255 → Wrong d before t p (TooManyNodes p)
  -- The bracket that closes a mark that names no letter.
  no_letter : (us : List Token) (ns : List ℕ) → t ≡ closing → Begins d (before ++ t ∷ []) → before ≡ us ++ (word (mark_word d) ∷ map number ns) → length ns ≡ mark_size d → code_named d ns ≡ None → Wrong d before t p (Misfit p)

-- Nothing is wrong with any token.
abbrev pub Clean : Dialect → List Placed → Type 0
Clean d ts = (us vs : List Placed) (t : Placed) (f : FormFault) → ts ≡ us ++ t ∷ vs → Wrong d (map bare us) t.token t.place f → ⊥

-- The leftmost wrong token stands at the fault's place, and is wrong as the fault says.
pub record Leftmost (d : Dialect) (ts : List Placed) (f : FormFault) : Type 0 where
  pub before : List Placed
  pub token : Token
  pub after : List Placed
  pub split : ts ≡ before ++ (record { token = token; place = place f }) ∷ after
  pub wrong : Wrong d (map bare before) token (place f) f
  pub clean : Clean d before

-- The line is a form of the dialect within the limits, and f is that form.
pub record Accepted (d : Dialect) (line : List ℕ) (f : Form) : Type 0 where
  pub known : Known line (length line)
  pub form : Written
  pub spells : spelled d form ≡ map bare (tokens line)
  pub within : Within d form
  pub holds : Holds d form f
  pub clean : Clean d (tokens line)

-- No byte is bad, the leftmost wrong token is wrong as f says, and the line is no form within the limits.
pub record Refused (d : Dialect) (line : List ℕ) (f : FormFault) : Type 0 where
  pub known : Known line (length line)
  pub leftmost : Leftmost d (tokens line) f
  pub no_form : (w : Written) → spelled d w ≡ map bare (tokens line) → Within d w → ⊥

-- A bad byte comes before all else; want of memory says nothing of the line.
abbrev pub Refusal : Dialect → List ℕ → FormFault → Type 0
Refusal d line (OfToken (BadByte p)) = Spoiled line p
Refusal d line (OfToken (TooLarge p)) = Refused d line (OfToken (TooLarge p))
Refusal d line (Misfit p) = Refused d line (Misfit p)
Refusal d line (TooManyNodes p) = Refused d line (TooManyNodes p)
Refusal d line NoMemory = Unit {0}

-- The leftmost fault of tokens is one.
abbrev pub OneFault : Type 0
OneFault = (d : Dialect) (ts : List Placed) (f g : FormFault) → Leftmost d ts f → Leftmost d ts g → f ≡ g

-- Two forms of a dialect with the same tokens are one.
abbrev pub OneForm : Type 0
OneForm = (d : Dialect) (v w : Written) → spelled d v ≡ spelled d w → v ≡ w
