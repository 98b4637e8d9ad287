-- What a task that ends makes of the world.
use Rattle.std.proofs.Common.{◌≡◌, ◌-◌, ℕ, cond, [], ◌∷◌, ◌++◌, length, length-append, Option, None, Ok, refl, sym, ap, ◌∙◌, subst, arith, inl, inr}
use Rattle.std.specs.Prelude.{slice_set}
use Rattle.std.proofs.lemmas.Bool.{eq-eqb}
use Rattle.std.proofs.lemmas.List.{get_or-set_other}
use Rattle.smi_journal_entries.specs.declared.entry.ActionEnd.TheVariants.{State}
use Rattle.smi_journal_entries.specs.declared.entry.Entry.{Entry}
use Rattle.smi_journal_entries.specs.declared.entry.Entry.TheVariants as entry
use Rattle.smi_journal_entries.specs.Words.{open_at, state_of}
use Rattle.smi_journal_entries.proofs.OneMore.{open_more}
use Rattle.smi_meaning.specs.Meaning.{Means, state_left}
use Rattle.smi_meaning.specs.Params.{env_of}
use Rattle.smi_interp.specs.declared.contact.Contact.TheVariants as named
use Rattle.smi_interp.specs.Task.{TaskView, IsNextContact, LeftNames, outcome_of}
use Rattle.smi_mail_plain.specs.Boxes.{PlainView}
use Rattle.smi_board.specs.Boards.{BoardView, own_at, kept_at}
use Rattle.smi_board.specs.Rings.{with_one}
use Rattle.smi_core.specs.Machines.{Tasks, either_task, moves_in, moves_at}
use Rattle.smi_core.specs.Told.{BoardIsTold, TaskIsTaken, CoreGoes, with_task, entries_from}
use Rattle.smi_core.proofs.Worlds.{world_turned}
use Rattle.smi_core.proofs.Tasks.{others_one, have_after, has_none}
use Rattle.smi_core.proofs.Moving.{is_whole, taken_out, world_moves, rest_elsewhere, rest_count}

-- ---- ends

module _ (b : BoardView PlainView) (t : TaskView) (rest : Tasks) (s : Option ℕ) (told : BoardIsTold b) (h : TaskIsTaken b t rest) (l : LeftNames t (named.End s)) (next : IsNextContact t (named.End s)) where
  abbrev o : ℕ
  o = t.turn.object

  abbrev tasks : Tasks
  tasks = with_task rest t

  abbrev end_entry : Entry
  end_entry = entry.End o (State (state_left (state_of b.domain o b.journal) (outcome_of s)))

  abbrev ended : BoardView PlainView
  ended = record b { journal = b.journal ++ end_entry ∷ []; params = slice_set b.params o t.params; woken = with_one o b.woken }

  no_moves : moves_at b.kept rest o ≡ []
  no_moves = ap (λ x. moves_in (either_task x (kept_at b.kept o))) h.none ∙ ap moves_in (taken_out b t rest h).1

  pub ends_goes : CoreGoes b (with_task rest t) t.turn.object (Ok (entries_from b.journal (b.journal ++ end_entry ∷ []))) ended rest
  ends_goes =
      let out = taken_out b t rest h in
      let K = b.journal ++ end_entry ∷ [] in
      let whole = is_whole b o t told h.within out.0 l.left (outcome_of s) l.leads next in
      record {
        moves = inr (inr (inr (inr (inr (inl (record {
          action = whole.action;
          env = whole.env;
          outcome = outcome_of s;
          means = subst (λ ms. Means b.domain whole.action.run.program (env_of whole.action.own whole.action.run) ms whole.env (outcome_of s)) (sym (world_moves b t rest h)) whole.means;
          answer = record { count = length K - length b.journal; answer = refl; added = omega (arith, length-append b.journal (end_entry ∷ [])) };
          after = world_turned b ended tasks rest refl end_entry o h.within refl (λ y lt. refl) no_moves (λ y lt apart. ap (λ x. moves_in (either_task x (kept_at b.kept y))) (rest_elsewhere b t rest h y apart));
        }))))));
        setup = refl;
        have = have_after b.domain o b.journal K b.params (slice_set b.params o t.params) b.kept b.kept tasks rest (others_one b.domain o b.journal end_entry refl)
            (record { own = λ y apart. get_or-set_other b.params o y t.params [] apart; keeps = λ y apart. refl; beside = rest_elsewhere b t rest h; count = rest_count b t rest h }) h.have
            (has_none b.domain K (own_at (slice_set b.params o t.params) o) o (kept_at rest o) (kept_at b.kept o)
            (open_more o b.journal end_entry ∙ ap (λ c. cond c None (open_at o b.journal)) (eq-eqb o o refl)) h.none out.1);
      }
