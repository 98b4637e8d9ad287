-- Lines that are written one after the other.
use Rattle.std.proofs.Common.{◌≡◌, ◌∙◌, sym, ap, refl, ℕ, zero, suc, ◌+◌, ◌<◌, List, [], ◌∷◌, ◌++◌, length, map}
use Rattle.std.proofs.Common.{flat_map, arith}
use Rattle.std.specs.List.{range_with_len}
use Rattle.std.proofs.lemmas.List.{flat_map_more}
use Rattle.std.proofs.lemmas.List.Concat.{flat_map-append}
use Rattle.std.proofs.lemmas.List.Folds.{flat_map-map}
use Rattle.sml_text.specs.Decimal.{decimal_text}
use Rattle.sml_domain.specs.Domain.{Domain}
use Rattle.smi_journal_entries.specs.declared.entry.Sender.{Sender}
use Rattle.smi_journal_entries.specs.declared.entry.Sender.TheVariants.{Operator, Object}
use Rattle.smi_mail.proofs.Opening.{range_more}
use Rattle.smi_mail.specs.declared.mailboxes.TheConstants.{MAX_SESSIONS}
use Rattle.smirun_run.specs.Summary.{all_senders, counted_line}

-- the lines of one place more
pub line_more : (line : ℕ → List ℕ) (n : ℕ) →
    flat_map line (range_with_len 0 n) ++ line n ≡ flat_map line (range_with_len 0 (n + 1))
line_more line n = flat_map_more line [] (range_with_len 0 n) n ∙ ap (flat_map line) (sym (range_more n))

-- a line with a count
pub line_counted : (front : List ℕ) (n : ℕ) → 0 < n →
    front ++ (32 ∷ (decimal_text n ++ (10 ∷ []))) ≡ counted_line front n
line_counted front zero lt = absurd (omega (arith, lt))
line_counted front (suc n) lt = refl

module _ (d : Domain) (lines : Sender → List ℕ) where
  abbrev objects : List ℕ
  objects = range_with_len 0 (length d.objects)

  abbrev operator : ℕ → Sender
  operator k = Operator (k + 1)

  -- the lines of all senders: those of the sessions, and then those of the objects
  pub all_lines : flat_map (λ k. lines (Operator (k + 1))) (range_with_len 0 MAX_SESSIONS)
      ++ flat_map (λ a. lines (Object a)) (range_with_len 0 (length d.objects)) ≡ flat_map lines (all_senders d)
  unfolding all_senders
  all_lines =
      let both = flat_map-append lines (map operator (range_with_len 0 MAX_SESSIONS)) (map Object objects) in
      let sessions = flat_map-map lines operator (range_with_len 0 MAX_SESSIONS) in
      let others = flat_map-map lines Object objects in
      sym (both ∙ ap (λ l. l ++ flat_map lines (map Object objects)) sessions
      ∙ ap (λ l. flat_map (λ k. lines (operator k)) (range_with_len 0 MAX_SESSIONS) ++ l) others)
