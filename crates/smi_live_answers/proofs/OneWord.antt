-- A word that is more than one token is no sender.
use Rattle.std.proofs.Common.{◌≡◌, ◌↔◌, ◌∙◌, sym, ap, ℕ, Bool, false, IsTrue, Option, Some, None, List, [], ◌∷◌, refl}
use Rattle.sml_text.specs.declared.source.Source.{Source}
use Rattle.sml_text.specs.Tokens.{Token}
use Rattle.sml_text.specs.Stream.{TextEnds, bad_from, tokens_from}
use Rattle.smi_lines.specs.Line.{lexemes, whole}
use Rattle.smi_live_answers.specs.Naming.{sole_sender}

-- where a text goes on after its first token
pub more_words : (first : Token) (ts : List Token) (bad : Option ℕ) (source : Source) (at : ℕ) (text : List ℕ) (end : Bool)
    → ((place : ℕ) → IsTrue end ↔ TextEnds source place text) → end ≡ false
    → ts ≡ first ∷ tokens_from source at text → bad ≡ bad_from source at text → None ≡ whole sole_sender ts bad
more_words first ts (Some place) source at text end ends goes_on are same = refl
more_words first ts None source at text end ends goes_on are same = go (tokens_from source at text) refl
  where
    go : (more : List Token) → tokens_from source at text ≡ more → None ≡ sole_sender (lexemes ts)
    go [] e = absurd (cc (sym goes_on ∙ (ends at).1 (e, sym same)))
    go (t ∷ more) e = sym (ap (λ l. sole_sender (lexemes l)) (are ∙ ap (λ l. first ∷ l) e))
