-- One text is of one front.
use Rattle.std.proofs.Common.{◌≡◌, ◌∙◌, sym, ap, refl, subst, inl, inr, ℕ, suc, ◌≤◌, ◌+◌, true, List, [], ◌∷◌, ◌++◌, All, append_assoc, append-nil, get_or, length, length-append, arith}
use Rattle.std.specs.Prelude.{◌⊎◌}
use Rattle.sml_domain.specs.Domain.{Domain}
use Rattle.sml_domain.specs.Sound.{IsSound}
use Rattle.sml_domain.proofs.Finds.{all_head, all_tail}
use Rattle.smi_journal.specs.HasText.{HasNames}
use Rattle.smi_outset_text.specs.Laws.{NoneIsBad, OneOutset}
use Rattle.smi_outset_text.specs.Lines.{IsFirstBadLine, outset_lines}
use Rattle.smi_outset_text.specs.OutsetText.{outset_text}
use Rattle.smi_carried.specs.CarriedText.{carried_text}
use Rattle.smi_carried.specs.Reading.{OneCarried}
use Rattle.smi_log_front.specs.declared.front.FrontKill.{FrontKill}
use Rattle.smi_log_front.specs.Faults.{EndIsBad, IsBadInFront, OutsetIsBad}
use Rattle.smi_log_front.specs.Front.{FrontView}
use Rattle.smi_log_front.specs.FrontText.{front_begin, front_end, front_head, front_kill_line, front_kills_text, front_text}
use Rattle.smi_log_front.specs.Laws.{NoneIsBadInFront, OneFront}
use Rattle.smi_log_front.specs.Reading.{HeadIsRead}
use Rattle.smi_log_front.specs.Suits.{FrontIsHeld, FrontSuits, KillIsHeld, are_kills_from}
use Rattle.smi_log_front.proofs.Alike.{carried_shorter, kills_first, kills_split, no_end_kill, one_end, one_head, past_ends}
use Rattle.smi_log_front.proofs.Lined.{one_longer}
use Rattle.smi_log_front.proofs.Wholes.{begin_says}

-- what follows the first line, the outset, and what goes along
abbrev pub kills_on : Domain → FrontView → List ℕ → List ℕ
kills_on d f more = front_kills_text d f.kills ++ (front_end f.log_sum ++ more)

abbrev pub past_on : Domain → FrontView → List ℕ → List ℕ
past_on d f more = carried_text d f.carried ++ kills_on d f more

abbrev pub outset_on : Domain → FrontView → List ℕ → List ℕ
outset_on d f more = outset_text d f.outset ++ past_on d f more

pub front_says : (d : Domain) (f : FrontView) (more : List ℕ) → front_text d f ++ more ≡ front_head f.domain_sum f.capacity ++ outset_on d f more
front_says d f more =
    append_assoc (front_begin d f) (front_end f.log_sum) more ∙ begin_says d f (front_end f.log_sum ++ more)
    ∙ ap (λ l. front_head f.domain_sum f.capacity ++ (outset_text d f.outset ++ l))
    (append_assoc (carried_text d f.carried) (front_kills_text d f.kills) (front_end f.log_sum ++ more))

-- its first line is read
pub front_head_read : (d : Domain) (f : FrontView) (text more : List ℕ) → FrontSuits d f → FrontIsHeld f → text ≡ front_text d f ++ more
    → HeadIsRead text f.domain_sum f.capacity (outset_on d f more)
front_head_read d f text more suits held e = record { digits = suits.of_domain; held = held.capacity; says = e ∙ front_says d f more }

no_kill_is_end : (d : Domain) (z : FrontKill) (zs : List FrontKill) (sum t u : List ℕ) → front_end sum ++ t ≡ front_kills_text d (z ∷ zs) ++ u → ⊥
no_kill_is_end d z zs sum t u e = let f : 33 ≡ 107 = ap (λ l. get_or l 0 0) e in omega (arith, f)

pub kill_held : (xs zs : List FrontKill) (z : FrontKill) → All KillIsHeld (xs ++ z ∷ zs) → KillIsHeld z
kill_held [] zs z h = all_head KillIsHeld z zs h
kill_held (x ∷ xs) zs z h = kill_held xs zs z (all_tail KillIsHeld x (xs ++ z ∷ zs) h)

module _ (d : Domain) (sound : IsSound d) (names : HasNames d) (one_outset : OneOutset) (one_carried : OneCarried) where
  -- ---- fronts in front of one text

  module _ (f g : FrontView) (t u : List ℕ) (sf : FrontSuits d f) (sg : FrontSuits d g) (hf : FrontIsHeld f) (hg : FrontIsHeld g) where
    one_past : past_on d f t ≡ past_on d g u → (f.carried ≡ g.carried) × (kills_on d f t ≡ kills_on d g u)
    one_past e = step (one_longer (carried_text d f.carried) (carried_text d g.carried) (kills_on d f t) (kills_on d g u) e)
      where
        step : ((v : List ℕ) × (carried_text d g.carried ≡ carried_text d f.carried ++ v) × (kills_on d f t ≡ v ++ kills_on d g u))
            ⊎ ((v : List ℕ) × (carried_text d f.carried ≡ carried_text d g.carried ++ v) × (kills_on d g u ≡ v ++ kills_on d f t))
            → (f.carried ≡ g.carried) × (kills_on d f t ≡ kills_on d g u)
        step (inl s) =
            carried_shorter d sound names one_carried f.carried g.carried sf.carried sg.carried hf.carried hg.carried (kills_on d f t) (kills_on d g u)
            (past_ends d sound names f.kills f.log_sum t) s.0 s.1 s.2
        step (inr s) =
            let r = carried_shorter d sound names one_carried g.carried f.carried sg.carried sf.carried hg.carried hf.carried (kills_on d g u) (kills_on d f t)
            (past_ends d sound names g.kills g.log_sum u) s.0 s.1 s.2 in (sym r.0, sym r.1)

    one_kills : kills_on d f t ≡ kills_on d g u → (f.kills ≡ g.kills) × (front_end f.log_sum ++ t ≡ front_end g.log_sum ++ u)
    one_kills e =
        let s = kills_split d sound names 0 0 f.kills g.kills (front_end f.log_sum ++ t) (front_end g.log_sum ++ u) sf.kills sg.kills (no_end_kill f.log_sum t) e in
        step s.0 s.1 s.2
      where
        step : (zs : List FrontKill) → f.kills ≡ g.kills ++ zs → front_end g.log_sum ++ u ≡ front_kills_text d zs ++ (front_end f.log_sum ++ t)
            → (f.kills ≡ g.kills) × (front_end f.log_sum ++ t ≡ front_end g.log_sum ++ u)
        step [] is e = (is ∙ append-nil g.kills, sym e)
        step (z ∷ zs) is e = absurd (no_kill_is_end d z zs g.log_sum u (front_end f.log_sum ++ t) e)

    one_front_of : front_text d f ++ t ≡ front_text d g ++ u → (f ≡ g) × (t ≡ u)
    one_front_of e =
        let text = front_text d f ++ t in
        let head = one_head text f.domain_sum g.domain_sum f.capacity g.capacity (outset_on d f t) (outset_on d g u)
        (front_head_read d f text t sf hf refl) (front_head_read d g text u sg hg e) in
        let outset = one_outset d f.outset g.outset (past_on d f t) (past_on d g u) sound names sf.outset sg.outset hf.outset hg.outset head.2 in
        let past = one_past outset.1 in
        let kills = one_kills past.1 in
        let end = one_end f.log_sum g.log_sum t u sf.after_log sg.after_log kills.1 in (
          λ i. record {
            domain_sum = head.0 i;
            capacity = head.1 i;
            outset = outset.0 i;
            carried = past.0 i;
            kills = kills.0 i;
            log_sum = end.0 i;
          },
          end.1,
        )

  -- ---- no line of a front is bad

  module _ (none_is_bad : NoneIsBad) (f : FrontView) (more : List ℕ) (n : ℕ) (suits : FrontSuits d f) (held : FrontIsHeld f) where
    abbrev whole : List ℕ
    whole = front_text d f ++ more

    own_head : HeadIsRead whole f.domain_sum f.capacity (outset_on d f more)
    own_head = front_head_read d f whole more suits held refl

    outset_is_good : OutsetIsBad d whole n → ⊥
    outset_is_good b =
        let head = one_head whole b.sum f.domain_sum b.capacity f.capacity b.rest (outset_on d f more) b.head own_head in
        none_is_bad d f.outset (past_on d f more) b.count sound names suits.outset held.outset (subst (λ l. IsFirstBadLine d (outset_lines d) l b.count) head.2 b.bad)

    module _ (b : EndIsBad d whole n) where
      abbrev g : FrontView
      g = b.front

      past_is : past_on d f more ≡ b.past
      past_is =
          let head = one_head whole f.domain_sum g.domain_sum f.capacity g.capacity (outset_on d f more) b.standing own_head b.head in
          (one_outset d f.outset g.outset (past_on d f more) b.past sound names suits.outset b.suits held.outset b.held (head.2 ∙ b.outset)).1

      abbrev on : List ℕ
      on = front_kills_text d g.kills ++ b.rest

      texts : carried_text d f.carried ++ kills_on d f more ≡ carried_text d g.carried ++ on
      texts = past_is ∙ b.read.says ∙ append_assoc (carried_text d g.carried) (front_kills_text d g.kills) b.rest

      no_longer : length (carried_text d f.carried) ≤ length (carried_text d g.carried)
      no_longer = b.read.longest f.carried (kills_on d f more) suits.carried held.carried (sym past_is)

      same_past : (f.carried ≡ g.carried) × (kills_on d f more ≡ on)
      same_past = step (one_longer (carried_text d f.carried) (carried_text d g.carried) (kills_on d f more) on texts)
        where
          shorter : (v : List ℕ) → carried_text d g.carried ≡ carried_text d f.carried ++ v → kills_on d f more ≡ v ++ on
              → (f.carried ≡ g.carried) × (kills_on d f more ≡ on)
          shorter v e h =
              carried_shorter d sound names one_carried f.carried g.carried suits.carried b.read.suits held.carried b.read.held (kills_on d f more) on
              (past_ends d sound names f.kills f.log_sum more) v e h

          none : (v : List ℕ) → carried_text d f.carried ≡ carried_text d g.carried ++ v → on ≡ v ++ kills_on d f more
              → (f.carried ≡ g.carried) × (kills_on d f more ≡ on)
          none [] e h =
              shorter [] (sym (append-nil (carried_text d g.carried)) ∙ sym e ∙ sym (append-nil (carried_text d f.carried))) (sym h)
          none (c ∷ v) e h =
              let size : length (carried_text d f.carried) ≡ length (carried_text d g.carried) + suc (length v)
              = ap length e ∙ length-append (carried_text d g.carried) (c ∷ v) in absurd (omega (arith, size, no_longer))

          step : ((v : List ℕ) × (carried_text d g.carried ≡ carried_text d f.carried ++ v) × (kills_on d f more ≡ v ++ on))
              ⊎ ((v : List ℕ) × (carried_text d f.carried ≡ carried_text d g.carried ++ v) × (on ≡ v ++ kills_on d f more))
              → (f.carried ≡ g.carried) × (kills_on d f more ≡ on)
          step (inl s) = shorter s.0 s.1 s.2
          step (inr s) = none s.0 s.1 s.2

      end_is_good : ⊥
      end_is_good =
          let s = kills_split d sound names 0 0 f.kills g.kills (front_end f.log_sum ++ more) b.rest suits.kills b.read.kills_suit (no_end_kill f.log_sum more)
          same_past.1 in
          step s.0 s.1 s.2
        where
          step : (zs : List FrontKill) → f.kills ≡ g.kills ++ zs → b.rest ≡ front_kills_text d zs ++ (front_end f.log_sum ++ more) → ⊥
          step [] is e = b.none f.log_sum more (record { digits = suits.after_log; says = e })
          step (z ∷ zs) is e =
              let all : are_kills_from d 0 (g.kills ++ z ∷ zs) ≡ true = ap (are_kills_from d 0) (sym is) ∙ suits.kills in
              b.read.none z (front_kills_text d zs ++ (front_end f.log_sum ++ more)) (kills_first d sound names 0 g.kills zs z all)
              (kill_held g.kills zs z (subst (All KillIsHeld) is held.kills))
              (e ∙ append_assoc (front_kill_line d z) (front_kills_text d zs) (front_end f.log_sum ++ more))

    front_is_good : IsBadInFront d whole n → ⊥
    front_is_good (inl b) = b.none f.domain_sum f.capacity (outset_on d f more) own_head
    front_is_good (inr (inl b)) = outset_is_good b
    front_is_good (inr (inr b)) = end_is_good b

pub one_front_law : OneOutset → OneCarried → OneFront
one_front_law one_outset one_carried d f g more others sound names sf sg hf hg e = one_front_of d sound names one_outset one_carried f g more others sf sg hf hg e

pub none_is_bad_law : OneOutset → OneCarried → NoneIsBad → NoneIsBadInFront
none_is_bad_law one_outset one_carried none d f more n sound names suits held b = front_is_good d sound names one_outset one_carried none f more n suits held b
