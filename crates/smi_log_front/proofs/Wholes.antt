-- The parts of a front.
use Rattle.std.proofs.Common.{◌≡◌, ◌∙◌, sym, ap, ℕ, ◌≤◌, ◌+◌, List, ◌++◌, append_assoc, length, length-append, arith}
use Rattle.sml_domain.specs.Domain.{Domain}
use Rattle.smi_outset_text.specs.OutsetText.{outset_text}
use Rattle.smi_carried.specs.Carried.{CarriedView}
use Rattle.smi_carried.specs.CarriedText.{carried_text}
use Rattle.smi_log_front.specs.declared.front.FrontKill.{FrontKill}
use Rattle.smi_log_front.specs.Front.{FrontView}
use Rattle.smi_log_front.specs.FrontText.{front_begin, front_end, front_head, front_kills_text, front_text}

module _ (d : Domain) (f : FrontView) where
  -- what goes along, and kills
  abbrev pub past_text : List ℕ
  past_text = carried_text d f.carried ++ front_kills_text d f.kills

  pub begin_says : (more : List ℕ) → front_begin d f ++ more ≡ front_head f.domain_sum f.capacity ++ (outset_text d f.outset ++ (past_text ++ more))
  begin_says more =
      append_assoc (front_head f.domain_sum f.capacity) (outset_text d f.outset ++ past_text) more
      ∙ ap (λ l. front_head f.domain_sum f.capacity ++ l) (append_assoc (outset_text d f.outset) past_text more)

  module _ (text standing past rest : List ℕ) (head : text ≡ front_head f.domain_sum f.capacity ++ standing)
      (outset : standing ≡ outset_text d f.outset ++ past) (is : past ≡ past_text ++ rest) where
    pub front_begins : text ≡ front_begin d f ++ rest
    front_begins =
        head ∙ ap (λ l. front_head f.domain_sum f.capacity ++ l) (outset ∙ ap (λ l. outset_text d f.outset ++ l) is) ∙ sym (begin_says rest)

    pub front_whole : (log : List ℕ) → rest ≡ front_end f.log_sum ++ log → text ≡ front_text d f ++ log
    front_whole log end =
        front_begins ∙ ap (λ l. front_begin d f ++ l) end ∙ sym (append_assoc (front_begin d f) (front_end f.log_sum) log)

    pub rest_fits : length rest ≤ length text
    rest_fits = let size : length text ≡ length (front_begin d f) + length rest = ap length front_begins ∙ length-append (front_begin d f) rest in omega (arith, size)

pub past_whole : (d : Domain) (text between rest : List ℕ) (carried : CarriedView) (kills : List FrontKill) → text ≡ carried_text d carried ++ between
    → between ≡ front_kills_text d kills ++ rest → text ≡ (carried_text d carried ++ front_kills_text d kills) ++ rest
past_whole d text between rest carried kills one two =
    one ∙ ap (λ l. carried_text d carried ++ l) two ∙ sym (append_assoc (carried_text d carried) (front_kills_text d kills) rest)

-- four texts, added one after another
pub begin_added : (old a b c e head outset carried kills : List ℕ) → a ≡ old ++ head → b ≡ a ++ outset → c ≡ b ++ carried → e ≡ c ++ kills
    → e ≡ old ++ (head ++ (outset ++ (carried ++ kills)))
begin_added old a b c e head outset carried kills ha hb hc he =
    he ∙ ap (λ l. l ++ kills) (hc ∙ ap (λ l. l ++ carried) (hb ∙ ap (λ l. l ++ outset) ha))
    ∙ append_assoc ((old ++ head) ++ outset) carried kills ∙ append_assoc (old ++ head) outset (carried ++ kills)
    ∙ append_assoc old head (outset ++ (carried ++ kills))
