-- What a step leaves of an end.
use Rattle.std.proofs.Common.{◌≡◌, ◌≢◌, ℕ, ◌<◌, ◌+◌, List, [], ◌∷◌, ◌++◌, length, set, Option, Some, None, MatchOption, refl, sym, ap, ◌∙◌, subst, arith, ⊎_elim, length-append, length-set, append_assoc}
use Rattle.std.specs.Prelude.{slice_index}
use Rattle.std.proofs.lemmas.List.{get_or-set_same, get_or-set_other, append-nil, nil_from_length}
use Rattle.std.proofs.lemmas.Bool.{cases_eq}
use mathlib.Core.List.{IsPrefix}
use Rattle.crossbeam_queue.specs.Passes.{Pass, view, IsPassOf, IsSamePass}
use Rattle.crossbeam_queue.specs.declared.array_queue.Doing.{Doing}
use Rattle.crossbeam_queue.specs.declared.array_queue.Slotted.{Slotted}
use Rattle.smi_journal_entries.specs.declared.entry.Sender.{Sender}
use Rattle.smi_journal_entries.specs.declared.entry.Sender.TheVariants.{Object}
use Rattle.smi_journal_entries.specs.declared.letter.Letter.{Letter}
use Rattle.smi_mail.specs.declared.rule.Kind.{Kind}
use Rattle.smi_mail.specs.declared.rule.BoardView.{BoardView}
use Rattle.smi_mail.specs.declared.rule.Knows.{Knows}
use Rattle.smi_mail.specs.declared.rule.Knows.TheVariants.{Board}
use Rattle.smi_mail.specs.Letters.{is_same, letters_from}
use Rattle.smi_mail.specs.Rule.{add_sent, add_taken, HasTaken, Settles, sent_of}
use Rattle.smi_mail.specs.Sides.{IsBoardEnd, IsDrainedEnd, board_view}
use Rattle.smi_mail.proofs.Lists.{from-append, from-one, from-none, is_same-self, is_same-objects}

prefix-longer : (xs ys zs : List Letter) → IsPrefix xs ys → IsPrefix xs (ys ++ zs)
prefix-longer xs ys zs p = (p.0 ++ zs, sym (append_assoc xs p.0 zs) ∙ ap (λ l. l ++ zs) p.1)

module _ {Q A : Type 0} (q : Slotted (Option Letter) (Doing Letter Knows) Q A) (p p' : Pass Letter Knows) (b : BoardView) (counts : List ℕ) (h : IsBoardEnd q p b counts) (same : IsSamePass p p') where
  pass_same : IsPassOf q p'
  pass_same = (same.0 ∙ h.ties.pass.0, same.2 ∙ h.ties.pass.1)

  at_view : (c : BoardView) (counts' : List ℕ) → view p' ≡ Board c → IsBoardEnd q p' c counts' → IsBoardEnd q p' (board_view (view p')) counts'
  at_view c counts' is k = subst (λ (d : BoardView). IsBoardEnd q p' d counts') (ap board_view (sym is)) k

  -- neither what was taken nor what was sent changed
  pub end_same : (c : BoardView) → view p' ≡ Board c → c.capacity ≡ b.capacity → c.most ≡ b.most → c.kind ≡ b.kind → c.taken ≡ b.taken → c.left ≡ b.left → c.sent ≡ b.sent → IsBoardEnd q p' (board_view (view p')) counts
  end_same c is cap most dom taken left sent = at_view c counts is (record {
    ties = record { pass = pass_same; seen = is; capacity = h.ties.capacity ∙ sym cap };
    most = most ∙ h.most ∙ sym cap;
    none = left ∙ h.none;
    wide = h.wide ∙ ap (λ (k : Kind). length k.domain.objects) (sym dom);
    counted = λ a lt. h.counted a lt ∙ ap (λ l. length (letters_from (Object a) l)) (sym sent);
    order = λ a. rw (taken, sent) (h.order a);
  })

  pub end_took : (x : Letter) (v : Knows) → v ≡ Board b → HasTaken v x (view p') → IsBoardEnd q p' (board_view (view p')) counts
  end_took x v was told =
      let t = subst (λ (u : Knows). HasTaken u x (view p')) was told in
      at_view (add_taken b x) counts t.0 (record {
        ties = record { pass = pass_same; seen = t.0; capacity = h.ties.capacity };
        most = h.most;
        none = h.none;
        wide = h.wide;
        counted = h.counted;
        order = t.3;
      })

  pub end_sent : (x : Letter) (a n : ℕ) → x.sender ≡ Object a → a < length counts → slice_index counts a ≡ n → view p' ≡ Board (add_sent b x) → IsBoardEnd q p' (board_view (view p')) (set counts a (n + 1))
  end_sent x a n by within at is =
      at_view (add_sent b x) (set counts a (n + 1)) is (record {
        ties = record { pass = pass_same; seen = is; capacity = h.ties.capacity };
        most = h.most;
        none = h.none;
        wide = length-set counts a (n + 1) ∙ h.wide;
        counted = counted';
        order = λ c. subst (IsPrefix (letters_from (Object c) b.taken)) (sym (from-append (Object c) b.sent (x ∷ []))) (prefix-longer _ _ _ (h.order c));
      })
    where
      more : (c : ℕ) → length (letters_from (Object c) (b.sent ++ x ∷ [])) ≡ length (letters_from (Object c) b.sent) + length (letters_from (Object c) (x ∷ []))
      more c = ap length (from-append (Object c) b.sent (x ∷ [])) ∙ length-append (letters_from (Object c) b.sent) (letters_from (Object c) (x ∷ []))

      one : length (letters_from (Object a) (x ∷ [])) ≡ 1
      one = ap length (from-one (Object a) x (ap (is_same (Object a)) by ∙ is_same-self (Object a)))

      none : (c : ℕ) → c ≢ a → length (letters_from (Object c) (x ∷ [])) ≡ 0
      none c apart = ap length (from-none (Object c) x (ap (is_same (Object c)) by ∙ is_same-objects c a apart))

      counted' : (c : ℕ) → c < length (set counts a (n + 1)) → slice_index (set counts a (n + 1)) c ≡ length (letters_from (Object c) (b.sent ++ x ∷ []))
      counted' c lt = ⊎_elim (λ (e : c ≡ a). subst (λ k. slice_index (set counts a (n + 1)) k ≡ length (letters_from (Object k) (b.sent ++ x ∷ []))) (sym e) (get_or-set_same counts a (n + 1) 0 within ∙ omega (arith, more a, one, at, h.counted a within)))
          (λ (apart : c ≢ a). get_or-set_other counts a c (n + 1) 0 apart ∙ omega (arith, more c, none c apart, h.counted c (omega (arith, length-set counts a (n + 1), lt))))
          (cases_eq c a)

  pub end_popped : (v : Knows) (r : Option Letter) (X : Type 0) → v ≡ Board b → MatchOption r ((view p' ≡ v) × X) (λ x. HasTaken v x (view p')) → IsBoardEnd q p' (board_view (view p')) counts
  end_popped v None X was told = end_same b (told.0 ∙ was) refl refl refl refl refl refl
  end_popped v (Some x) X was told = end_took x v was told

-- what each sender sent, once nothing is left
pub nothing_left : (p : Pass Letter Knows) (v : Knows) (b : BoardView) (m : ℕ) (left items : List Letter) → v ≡ Board (record b { left = left; most = m }) → view p ≡ v → length items ≡ 0 → Settles v items → IsDrainedEnd p left (board_view (view p))
nothing_left p v b m left items is same none told =
    let c : BoardView = record b { left = left; most = m } in
    let t : (s : Sender) → sent_of c s ≡ letters_from s c.taken ++ letters_from s (c.left ++ items) = subst (λ (u : Knows). Settles u items) is told in
    subst (λ (d : BoardView). IsDrainedEnd p left d) (ap board_view (sym is ∙ sym same))
    (record {
      left_is = refl;
      settled = λ s. t s ∙ ap (λ l. letters_from s c.taken ++ letters_from s (left ++ l)) (nil_from_length items none) ∙ ap (λ l. letters_from s c.taken ++ letters_from s l) (append-nil left);
    })
