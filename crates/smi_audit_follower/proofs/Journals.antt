-- What a follower says of the journal that it follows.
use Rattle.std.proofs.Common.{◌≡◌, ◌∙◌, sym, ap, subst, refl, ℕ, List, [], ◌∷◌, ◌++◌, map, Some, None, Option, true, false}
use Rattle.std.specs.Prelude.{◌&&◌, is_some, option_map}
use Rattle.std.specs.List.{list_all}
use Rattle.std.specs.Option.{option_map_or, option_and_then}
use Rattle.sml_domain.specs.declared.value.Value.{Value}
use Rattle.sml_domain.specs.Domain.{Domain}
use Rattle.sml_domain.specs.Lookups.{program_at}
use Rattle.sml_domain.specs.Program.{Program, Nothing}
use Rattle.sml_domain.specs.Truth.{Reading}
use Rattle.smi_journal_entries.specs.declared.entry.Entry.{Entry}
use Rattle.smi_journal_entries.specs.declared.journal.Format.{Format}
use Rattle.smi_journal_entries.specs.Sets.{sets_after}
use Rattle.smi_meaning.specs.Quiet.{said_of_block}
use Rattle.smi_journal_entries.specs.Words.{Item, Saw, is_clear, shown_of}
use Rattle.smi_meaning.specs.Conditions.{object_read}
use Rattle.smi_meaning.specs.EntryLaws.{are_clear}
use Rattle.smi_meaning.specs.Legal.{ShowsNext, WaitsToRead, BlockEnds, is_clear_for}
use Rattle.smi_meaning.specs.Meaning.{Means, state_left}
use Rattle.smi_meaning.specs.Params.{Running, run_with, running_in, running_at, IsDone, LeavesParams}
use Rattle.smi_meaning.specs.Shown.{BeginsToShow, ToRead}
use Rattle.smi_meaning.proofs.Parameters.{params_are_one}
use Rattle.smi_interp.specs.Turn.{readings_of}
use Rattle.smi_interp.specs.Task.{this_program}
use Rattle.smi_audit_follower.specs.Following.{FollowerView, follower_block, follower_env, MayShow, Asks, EndsIn, FollowerMayEnd}
use Rattle.smi_audit_follower.specs.Laws.{IsFollowed}
use Rattle.smi_audit_follower.proofs.Objects.{objects_same}

-- what runs is the follower's block, with its arguments
abbrev run_of : FollowerView → Running
run_of f = run_with f.letter.args (follower_block f)

declared_runs : (format : Format) (d : Domain) (args : List Value) (p : Option Program) → is_some p ≡ true → option_map (run_with args) (option_map (said_of_block format d) p) ≡ Some (run_with args (said_of_block format d (option_map_or this_program p Nothing)))
declared_runs format d args None e = absurd (cc e)
declared_runs format d args (Some b) e = refl

runs : (format : Format) (d : Domain) (J : List Entry) (o : ℕ) (f : FollowerView) → IsFollowed format d J o f → running_at format d o J ≡ Some (run_of f)
runs format d J o f h =
    ap (option_and_then (running_in format d o J)) h.opened
    ∙ ap (λ s. option_map (run_with f.letter.args) (option_map (said_of_block format d) (program_at d o s f.letter.action))) (sym h.state)
    ∙ declared_runs format d f.letter.args (program_at d o f.state f.letter.action) h.declared
    ∙ ap (λ x. Some (run_with f.letter.args (said_of_block x d (option_map_or this_program (program_at d o f.state f.letter.action) Nothing)))) (sym h.format_is)
    ∙ ap (λ x. Some (run_with f.letter.args (said_of_block f.format x (option_map_or this_program (program_at x o f.state f.letter.action) Nothing)))) (sym h.domain)
    ∙ ap (λ x. Some (run_with f.letter.args (said_of_block f.format f.domain (option_map_or this_program (program_at f.domain x f.state f.letter.action) Nothing)))) (sym h.object)

-- it is the only one that runs
runs_it : (format : Format) (d : Domain) (J : List Entry) (o : ℕ) (f : FollowerView) (run : Running) → IsFollowed format d J o f → running_at format d o J ≡ Some run → run ≡ run_of f
runs_it format d J o f run h e = let k : Some run ≡ Some (run_of f) = sym e ∙ runs format d J o f h in cc k

-- ---- what is shown

pub shown_out : (format : Format) (d : Domain) (J : List Entry) (o : ℕ) (f : FollowerView) (item : Item) → IsFollowed format d J o f → ShowsNext format d J o item → MayShow f item
shown_out format d J o f item h s =
    let own : s.own ≡ f.own = params_are_one format d o J s.own f.own s.params h.params in
    let a = subst (λ (x : Running). BeginsToShow d x.program (record { own = s.own; given = x.args }) (shown_of d o J ++ item ∷ [])) (runs_it format d J o f s.run h s.runs) s.shows in
    let b = subst (λ ps. BeginsToShow d (follower_block f) (record { own = ps; given = f.letter.args }) (shown_of d o J ++ item ∷ [])) own a in
    let c = subst (λ xs. BeginsToShow d (follower_block f) (follower_env f) (xs ++ item ∷ [])) (sym h.shown) b in
    subst (λ x. BeginsToShow x (follower_block f) (follower_env f) (f.shown ++ item ∷ [])) (sym h.domain) c

pub shown_in : (format : Format) (d : Domain) (J : List Entry) (o : ℕ) (f : FollowerView) (item : Item) → IsFollowed format d J o f → MayShow f item → ShowsNext format d J o item
shown_in format d J o f item h m =
    let a = subst (λ x. BeginsToShow x (follower_block f) (follower_env f) (f.shown ++ item ∷ [])) h.domain m in
    record {
      own = f.own;
      params = h.params;
      run = run_of f;
      runs = runs format d J o f h;
      shows = subst (λ xs. BeginsToShow d (follower_block f) (follower_env f) (xs ++ item ∷ [])) h.shown a;
    }

-- ---- waiting

clear_objects : (J : List Entry) (o : ℕ) (readings : List Reading) → list_all (is_clear_for J o) readings ≡ are_clear J o (map object_read readings)
clear_objects J o [] = refl
clear_objects J o (r ∷ rs) = ap (λ b. is_clear o r.object J && b) (clear_objects J o rs)

pub wait_out : (format : Format) (d : Domain) (J : List Entry) (o : ℕ) (f : FollowerView) (objects : List ℕ) → IsFollowed format d J o f → Asks f (sets_after d J) (ToRead objects) → WaitsToRead format d J o → are_clear J o objects ≡ false
wait_out format d J o f objects h a w =
    let sight : Item = Saw (record { sets = sets_after d J; readings = w.0 }) in
    let e : ToRead (map object_read w.0) ≡ ToRead objects = (a sight refl).0 (shown_out format d J o f sight h w.1) in
    let k : map object_read w.0 ≡ objects = cc e in
    ap (are_clear J o) (sym k) ∙ sym (clear_objects J o w.0) ∙ w.2

pub wait_in : (format : Format) (d : Domain) (J : List Entry) (o : ℕ) (f : FollowerView) (objects : List ℕ) → IsFollowed format d J o f → Asks f (sets_after d J) (ToRead objects) → are_clear J o objects ≡ false → WaitsToRead format d J o
wait_in format d J o f objects h a e =
    let rs = readings_of objects objects in
    let q : ToRead (map object_read rs) ≡ ToRead objects = ap (λ os. ToRead os) (objects_same objects) in
    let sight : Item = Saw (record { sets = sets_after d J; readings = rs }) in
    (rs, shown_in format d J o f sight h ((a sight refl).1 q), clear_objects J o rs ∙ ap (are_clear J o) (objects_same objects) ∙ e)

-- ---- ends

pub done_of : (format : Format) (d : Domain) (J : List Entry) (o : ℕ) (f : FollowerView) (s : ℕ) (own2 : List Value) → IsFollowed format d J o f → (e : EndsIn f s own2) → IsDone format d o J f.own e.env2 e.outcome
done_of format d J o f s own2 h e = record {
  run = run_of f;
  runs = runs format d J o f h;
  moves = e.moves;
  means = subst (λ x. Means x (follower_block f) (follower_env f) e.moves e.env2 e.outcome) h.domain e.means;
  shown = e.shown ∙ h.shown;
}

pub ends_leave : (format : Format) (d : Domain) (J : List Entry) (o : ℕ) (f : FollowerView) (s : ℕ) (own2 : List Value) → IsFollowed format d J o f → EndsIn f s own2 → LeavesParams format d o J f.own own2
ends_leave format d J o f s own2 h e = record { env2 = e.env2; outcome = e.outcome; done = done_of format d J o f s own2 h e; left = e.params }

pub end_in : (format : Format) (d : Domain) (J : List Entry) (o : ℕ) (f : FollowerView) (s : ℕ) → IsFollowed format d J o f → FollowerMayEnd f s → BlockEnds format d J o s
end_in format d J o f s h m = record {
  own = f.own;
  params = h.params;
  env2 = m.1.env2;
  outcome = m.1.outcome;
  done = done_of format d J o f s m.0 h m.1;
  state = m.1.state ∙ ap (λ q. state_left q m.1.outcome) h.state;
}

pub end_out : (format : Format) (d : Domain) (J : List Entry) (o : ℕ) (f : FollowerView) (s : ℕ) → IsFollowed format d J o f → BlockEnds format d J o s → FollowerMayEnd f s
end_out format d J o f s h b =
    let own : b.own ≡ f.own = params_are_one format d o J b.own f.own b.params h.params in
    let x = subst (λ (r : Running). Means d r.program (record { own = b.own; given = r.args }) b.done.moves b.env2 b.outcome) (runs_it format d J o f b.done.run h b.done.runs) b.done.means in
    let y = subst (λ ps. Means d (follower_block f) (record { own = ps; given = f.letter.args }) b.done.moves b.env2 b.outcome) own x in (
      b.env2.own,
      record {
        moves = b.done.moves;
        env2 = b.env2;
        outcome = b.outcome;
        means = subst (λ q. Means q (follower_block f) (follower_env f) b.done.moves b.env2 b.outcome) (sym h.domain) y;
        shown = b.done.shown ∙ sym h.shown;
        state = b.state ∙ ap (λ q. state_left q b.outcome) (sym h.state);
        params = refl;
      },
    )
