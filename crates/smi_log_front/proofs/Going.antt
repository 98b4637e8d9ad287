-- No front goes on where none was read.
use Rattle.std.proofs.Common.{◌≡◌, ◌∙◌, sym, ap, refl, subst, inl, inr, ℕ, ◌+◌, true, List, [], ◌∷◌, ◌++◌, All, append_assoc, append-nil, get_or, length, length-append, arith}
use Rattle.std.specs.Prelude.{◌⊎◌, ◌==◌, codes}
use Rattle.std.specs.List.{list_all}
use Rattle.std.proofs.lemmas.Bool.Decides.{nat_tests}
use Rattle.sml_text.specs.Tokens.{Each}
use Rattle.sml_domain.specs.Domain.{Domain}
use Rattle.sml_domain.specs.Sound.{IsSound}
use Rattle.smi_journal.specs.HasText.{HasNames}
use Rattle.smi_outset_text.specs.Laws.{OneOutset}
use Rattle.smi_outset_text.specs.OutsetText.{outset_text}
use Rattle.smi_carried.specs.CarriedText.{carried_text}
use Rattle.smi_carried.specs.Pieces.{is_other_byte}
use Rattle.smi_carried.specs.Reading.{OneCarried}
use Rattle.smi_carried.proofs.Cuts.{each_append, each_more}
use Rattle.smi_carried.proofs.Names.{both_true, each_of_all}
use Rattle.smi_log_front.specs.declared.front.FrontKill.{FrontKill}
use Rattle.smi_log_front.specs.declared.sums.TheConstants.{SUM_DIGITS}
use Rattle.smi_log_front.specs.Faults.{EndIsBad}
use Rattle.smi_log_front.specs.Front.{FrontView}
use Rattle.smi_log_front.specs.FrontText.{front_begin, front_end, front_kill_line, front_kills_text, front_text}
use Rattle.smi_log_front.specs.Laws.{IsOneLine, NoneGoesOn}
use Rattle.smi_log_front.specs.Reading.{HeadIsRead}
use Rattle.smi_log_front.specs.Suits.{FrontIsHeld, FrontSuits, KillIsHeld, are_kills_from}
use Rattle.smi_log_front.specs.Sums.{is_log_sum, is_sum_digit}
use Rattle.smi_log_front.proofs.Alike.{carried_shorter, kill_is_line, kills_first, kills_split, no_end_kill, one_head, past_ends}
use Rattle.smi_log_front.proofs.CarriedLines.{IsCarriedText, carried_ends, carried_lined}
use Rattle.smi_log_front.proofs.Fronts.{front_head_read, kill_held, kills_on, outset_on, past_on}
use Rattle.smi_log_front.proofs.KillLines.{kills_last}
use Rattle.smi_log_front.proofs.Lined.{NextLine, one_line, one_longer}
use Rattle.smi_log_front.proofs.Wholes.{begin_says, past_text}

no_feed_digit : (c : ℕ) → is_sum_digit c ≡ true → is_other_byte 10 c ≡ true
no_feed_digit c h = grind (arith, nat_tests)

sum_feed : (sum : List ℕ) → is_log_sum sum ≡ true → Each (is_other_byte 10) sum
sum_feed sum h =
    each_more is_sum_digit (is_other_byte 10) sum no_feed_digit (each_of_all is_sum_digit sum (both_true (length sum == SUM_DIGITS) (list_all is_sum_digit sum) h).1)

end_is_line : (sum : List ℕ) → is_log_sum sum ≡ true → IsOneLine (front_end sum)
end_is_line sum h = record {
  words = codes "! after " ++ sum;
  each = each_append (is_other_byte 10) (codes "! after ") sum (each_of_all (is_other_byte 10) (codes "! after ") refl) (sum_feed sum h);
  is = refl;
}

module _ (d : Domain) (sound : IsSound d) (names : HasNames d) (one_outset : OneOutset) (one_carried : OneCarried)
    (text : List ℕ) (n : ℕ) (b : EndIsBad d text n) (f : FrontView) (line more others : List ℕ) (suits : FrontSuits d f) (held : FrontIsHeld f)
    (one : IsOneLine line) (is : b.rest ≡ line ++ more) (goes : front_text d f ≡ (front_begin d b.front ++ line) ++ others) where
  abbrev g : FrontView
  g = b.front

  abbrev whole : List ℕ
  whole = front_text d f ++ []

  abbrev on : List ℕ
  on = front_kills_text d g.kills ++ (line ++ others)

  begins : whole ≡ front_begin d g ++ (line ++ others)
  begins = append-nil (front_text d f) ∙ goes ∙ append_assoc (front_begin d g) line others

  past_is : past_on d f [] ≡ carried_text d g.carried ++ on
  past_is =
      let own = front_head_read d f whole [] suits held refl in
      let other : HeadIsRead whole g.domain_sum g.capacity (outset_text d g.outset ++ (past_text d g ++ (line ++ others)))
      = record { digits = b.head.digits; held = b.head.held; says = begins ∙ begin_says d g (line ++ others) } in
      let head = one_head whole f.domain_sum g.domain_sum f.capacity g.capacity (outset_on d f []) (outset_text d g.outset ++ (past_text d g ++ (line ++ others))) own other in
      (one_outset d f.outset g.outset (past_on d f []) (past_text d g ++ (line ++ others)) sound names suits.outset b.suits held.outset b.held head.2).1
      ∙ append_assoc (carried_text d g.carried) (front_kills_text d g.kills) (line ++ others)

  shorter : (v : List ℕ) → carried_text d g.carried ≡ carried_text d f.carried ++ v → kills_on d f [] ≡ v ++ on → kills_on d f [] ≡ on
  shorter v e h =
      (carried_shorter d sound names one_carried f.carried g.carried suits.carried b.read.suits held.carried b.read.held (kills_on d f []) on
      (past_ends d sound names f.kills f.log_sum []) v e h).1

  -- more would have been read if what goes along went on
  no_longer : (v : List ℕ) → on ≡ v ++ kills_on d f [] → NextLine (IsCarriedText d) (carried_text d g.carried) v → ⊥
  no_longer v h next = by g.kills refl
    where
      after : on ≡ next.line ++ (next.rest ++ kills_on d f [])
      after = h ∙ ap (λ l. l ++ kills_on d f []) next.is ∙ append_assoc next.line next.rest (kills_on d f [])

      too_long : line ≡ next.line → b.past ≡ carried_text d g.carried ++ (line ++ more) → ⊥
      too_long same e =
          let may = next.may_be in
          let text_is : b.past ≡ carried_text d may.carried ++ more
          = e ∙ ap (λ l. carried_text d g.carried ++ (l ++ more)) same ∙ sym (append_assoc (carried_text d g.carried) next.line more) ∙ ap (λ l. l ++ more) may.is in
          let most = b.read.longest may.carried more may.suits may.held text_is in
          let size : length (carried_text d may.carried) ≡ length (carried_text d g.carried) + length next.line
          = ap length (sym may.is) ∙ length-append (carried_text d g.carried) next.line in
          let byte : length next.line ≡ length (33 ∷ 32 ∷ next.kind.byte ∷ next.kind.more) = ap length next.kind.is in
          omega (arith, most, size, byte)

      by : (ks : List FrontKill) → g.kills ≡ ks → ⊥
      by [] e =
          let same = one_line line next.line others (next.rest ++ kills_on d f []) one next.one (sym (ap (λ ks. front_kills_text d ks ++ (line ++ others)) e) ∙ after) in
          too_long same.0 (b.read.says ∙ append_assoc (carried_text d g.carried) (front_kills_text d g.kills) b.rest
          ∙ ap (λ ks. carried_text d g.carried ++ (front_kills_text d ks ++ b.rest)) e ∙ ap (λ l. carried_text d g.carried ++ l) is)
      by (k ∷ ks) e =
          let first : 107 ≡ 33
          = ap (λ l. get_or l 0 0) (sym (ap (λ ks. front_kills_text d ks ++ (line ++ others)) e) ∙ after
          ∙ ap (λ l. l ++ (next.rest ++ kills_on d f [])) next.kind.is) in omega (arith, first)

  kills_are : kills_on d f [] ≡ on
  kills_are = step (one_longer (carried_text d f.carried) (carried_text d g.carried) (kills_on d f []) on past_is)
    where
      none : (v : List ℕ) → carried_text d f.carried ≡ carried_text d g.carried ++ v → on ≡ v ++ kills_on d f []
          → (v ≡ []) ⊎ NextLine (IsCarriedText d) (carried_text d g.carried) v → kills_on d f [] ≡ on
      none v e h (inl empty) = sym (h ∙ ap (λ l. l ++ kills_on d f []) empty)
      none v e h (inr next) = absurd (no_longer v h next)

      step : ((v : List ℕ) × (carried_text d g.carried ≡ carried_text d f.carried ++ v) × (kills_on d f [] ≡ v ++ on))
          ⊎ ((v : List ℕ) × (carried_text d f.carried ≡ carried_text d g.carried ++ v) × (on ≡ v ++ kills_on d f [])) → kills_on d f [] ≡ on
      step (inl s) = shorter s.0 s.1 s.2
      step (inr s) =
          none s.0 s.1 s.2 (carried_lined d sound names f.carried suits.carried held.carried (carried_text d g.carried) s.0 s.1
          (carried_ends d sound names g.carried b.read.suits b.read.held))

  none_goes_on : ⊥
  none_goes_on =
      let s = kills_split d sound names 0 0 f.kills g.kills (front_end f.log_sum ++ []) (line ++ others) suits.kills b.read.kills_suit (no_end_kill f.log_sum []) kills_are in
      step s.0 s.1 s.2
    where
      step : (zs : List FrontKill) → f.kills ≡ g.kills ++ zs → line ++ others ≡ front_kills_text d zs ++ (front_end f.log_sum ++ []) → ⊥
      step [] all e =
          let same = one_line line (front_end f.log_sum) others [] one (end_is_line f.log_sum suits.after_log) e in
          b.none f.log_sum more (record { digits = suits.after_log; says = is ∙ ap (λ l. l ++ more) same.0 })
      step (z ∷ zs) all e =
          let suit : are_kills_from d 0 (g.kills ++ z ∷ zs) ≡ true = ap (are_kills_from d 0) (sym all) ∙ suits.kills in
          let first = kills_first d sound names 0 g.kills zs z suit in
          let within = (kills_last d 0 g.kills z first).1 in
          let same = one_line line (front_kill_line d z) others (front_kills_text d zs ++ (front_end f.log_sum ++ [])) one (kill_is_line d sound names z within)
          (e ∙ append_assoc (front_kill_line d z) (front_kills_text d zs) (front_end f.log_sum ++ [])) in
          b.read.none z more first (kill_held g.kills zs z (subst (All KillIsHeld) all held.kills)) (is ∙ ap (λ l. l ++ more) same.0)

pub none_goes_on_law : OneOutset → OneCarried → NoneGoesOn
none_goes_on_law one_outset one_carried d text n b f line more others sound names suits held one is goes =
    none_goes_on d sound names one_outset one_carried text n b f line more others suits held one is goes
