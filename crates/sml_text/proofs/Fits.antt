-- The bytes that stand at a front may stand in a token.
use Rattle.std.proofs.Common.{◌≡◌, ◌≤◌, ℕ, List, [], ◌∷◌, refl, arith, length, drop, length-drop, length-take, Option, Some, None, true, Bool}
use Rattle.std.specs.Prelude.{nat_le}
use Rattle.std.specs.List.{list_all}
use Rattle.std.proofs.lemmas.Bool.Decides.{nat_tests}
use Rattle.sml_text.specs.declared.source.Source.{Source}
use Rattle.sml_text.specs.declared.front.Front.{Front}
use Rattle.sml_text.specs.declared.front.Front.TheVariants.{End, Skip, Word as AWord, Int as AnInt, Str as AStr, Sign as ASign, Session as ASession, Bad}
use Rattle.sml_text.specs.Bytes.{is_word, is_word_byte, is_string_byte}
use Rattle.sml_text.specs.Tokens.{Each, Lexeme, Word, Int, Str, Sign, Session, LexemeStands, blank, comment, word, int, string, sign, session}
use Rattle.sml_text.specs.Front.{IsFront}
use Rattle.sml_text.specs.Views.{FrontFits}
use Rattle.sml_text.specs.declared.limits.TheConstants.{LONGEST_NAME, LONGEST_STRING}

each_all : (p : ℕ → Bool) (xs : List ℕ) → Each p xs → list_all p xs ≡ true
each_all p [] h = refl
each_all p (x ∷ xs) h = rw (h.0, each_all p xs h.1) refl

-- what the bytes of a token are
abbrev Fits : List ℕ → Option Lexeme → Type 0
Fits bytes None = Unit {0}
Fits bytes (Some (Word w)) = is_word bytes ≡ true
Fits bytes (Some (Int n)) = Unit {0}
Fits bytes (Some (Str s)) = Each is_string_byte s × (length s ≤ LONGEST_STRING)
Fits bytes (Some (Sign s)) = Unit {0}
Fits bytes (Some (Session k)) = (1 ≤ k) × (k ≤ 8)

stands_fits : (source : Source) (bytes rest : List ℕ) (what : Option Lexeme) → LexemeStands source bytes rest what → Fits bytes what
stands_fits source bytes rest what (blank c _ h) = tt
stands_fits source bytes rest what (comment body _ each over) = tt
stands_fits source bytes rest what (word c body _ letter each over short) =
    let fits : nat_le (length (c ∷ body)) LONGEST_NAME ≡ true = grind (arith, nat_tests) in
    rw (letter, each_all is_word_byte body each, fits) refl
stands_fits source bytes rest what (int minus c digits _ digit each over long) = tt
stands_fits source bytes rest what (string body _ each short) = (each, short)
stands_fits source bytes rest what (sign s _) = tt
stands_fits source bytes rest what (session k _ line least most) = (least, most)

pub front_fits : (source : Source) (text : List ℕ) (x : Front) → IsFront source text x → FrontFits x text
front_fits source text End s = tt
front_fits source text (Skip n) s = tt
front_fits source text (AWord n) s = (s.within, stands_fits source _ _ _ s.stands)
front_fits source text (AnInt value n) s = tt
front_fits source text (AStr n) s =
    let f = stands_fits source _ _ _ s.stands in
    let w = s.within in let l = length-take n (drop 1 text) in let d = length-drop 1 text in
    (w, f.0, omega (arith, w, l, d, f.1))
front_fits source text (ASign k) s = tt
front_fits source text (ASession k) s = stands_fits source _ _ _ s.stands
front_fits source text Bad s = tt
