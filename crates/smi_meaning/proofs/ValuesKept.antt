-- The values of a legal journal have the kinds of their parameters.
use Rattle.std.proofs.Common.{◌≡◌, ℕ, zero, suc, Bool, true, false, List, [], ◌∷◌, ◌++◌, Option, Some, None, All, slice_get, map, option_map, refl, sym, ◌∙◌, subst, append-nil, append_assoc}
use Rattle.std.specs.Prelude.{◌==◌, nat_eq, not, if◌then◌else◌, IsSomeAnd}
use Rattle.std.specs.List.{filter_map, cons_option, list_any, Contains}
use Rattle.std.specs.Option.{option_and_then, option_map_or}
use Rattle.std.proofs.lemmas.Bool.{eqb-true}
use Rattle.std.proofs.lemmas.List.Elements.{All-append, All-cons, All-filter, All-nil}
use Rattle.sml_domain.specs.declared.value.Value.{Value}
use Rattle.sml_domain.specs.Program.{Target, ToOne, ToMembers, Program, Nothing, SetThen, SendThen, SendNoneThen, IfThen, EndIn, TerminateIn, WaitThen, ChangeThen}
use Rattle.sml_domain.specs.Domain.{Domain, Class, Signature, Param}
use Rattle.sml_domain.specs.Lookups.{class_at, params_of_action, params_of_class, class_params_at, signature_in, tree_of_block, block_at, members_at, may_at}
use Rattle.sml_domain.specs.Fits.{ProgramFits}
use Rattle.sml_domain.specs.Sound.{IsSound, ClassParamFits, IsOfKind, FitsClass, TakesParams}
use Rattle.sml_domain.proofs.Ranges.{class_fits, class_params_fit, this_block_fits}
use Rattle.sml_domain.proofs.Finds.{all_head, all_tail}
use Rattle.sml_domain.proofs.Completes.{completes_with_kinds}
use Rattle.sml_domain.proofs.Setted.{members_may}
use Rattle.smi_journal_entries.specs.declared.journal.Format.{Format}
use Rattle.smi_journal_entries.specs.declared.entry.Sender.{Sender}
use Rattle.smi_journal_entries.specs.declared.entry.Sender.TheVariants.{Operator, Object}
use Rattle.smi_journal_entries.specs.declared.entry.Verdict.TheVariants.{Accepted, Full, Dead}
use Rattle.smi_journal_entries.specs.declared.entry.Entry.{Entry}
use Rattle.smi_journal_entries.specs.declared.entry.Entry.TheVariants.{Start, Post, Wait, Seen, End, Kill, Insert, Remove, NoMember}
use Rattle.smi_journal_entries.specs.declared.entry.ActionEnd.TheVariants.{State, Skipped}
use Rattle.smi_journal_entries.specs.declared.letter.Letter.{Letter}
use Rattle.smi_journal_entries.specs.Requests.{Request}
use Rattle.smi_journal_entries.specs.Words.{Item, Sent, HadNone, Saw, Turned, open_at, open_next, posts_between, post_in, state_of, shown_of}
use Rattle.smi_journal_entries.proofs.OneMore.{open_more, posts_more, sets_more}
use Rattle.smi_journal_entries.proofs.Changing.{begin_declared, change_written}
use Rattle.smi_journal_entries.specs.Sets.{Sets, members_in, changed_to, with_change, sets_next, sets_after}
use Rattle.smi_meaning.specs.Items.{Posted, item_of, sent_shown}
use Rattle.smi_meaning.specs.Environment.{Env, value_of, with_set, ValuesFit, ArgumentsAre, EnvFits}
use Rattle.smi_meaning.specs.Conditions.{is_true_over}
use Rattle.smi_meaning.specs.Meaning.{Move, DidSend, Outcome, Through, To, Means, Goes, post_of}
use Rattle.smi_meaning.specs.Shown.{items_of, shown_moves}
use Rattle.smi_meaning.specs.Quiet.{said_of_block}
use Rattle.smi_meaning.specs.Params.{Running, run_with, running_in, running_at, env_of, LeavesParams, is_logical_at, ParamsNext, ParamsFrom, initial_params, first_value}
use Rattle.smi_meaning.specs.Legal.{MayStart, ShowsNext, MayFollow, IsLegalFrom, IsLegal}
use Rattle.smi_meaning.specs.Laws.{PostFits, AreAllowedMembers}
use Rattle.smi_meaning.specs.LegalLaws.{AllFit, JournalFits}
use Rattle.smi_meaning.proofs.KindsKept.{env_set, meanings_keep_kinds, wanted_fit}
use Rattle.smi_meaning.proofs.Showing.{shown-append, nobody_shown}
use Rattle.smi_meaning.proofs.Silence.{said_fits}
use Rattle.smi_meaning.proofs.Picked.{on_branch, same_some, in_two}

-- ---- what meanings show

-- what is shown fits: a post if sets have only members that they may come to have, and a change if it puts in only
-- such
abbrev pub ItemFits : Domain → Item → Type 0
ItemFits d (Sent sets t v a args) = AreAllowedMembers d (members_in d sets) → ArgumentsAre d t a args
ItemFits d (HadNone sets set) = Unit {0}
ItemFits d (Saw k) = Unit {0}
ItemFits d (Turned add o set) = add ≡ true → Contains (may_at d set) o

abbrev pub ItemsFit : Domain → List Item → Type 0
ItemsFit d [] = Unit {0}
ItemsFit d (x ∷ xs) = ItemFits d x × ItemsFit d xs

both_fit : (d : Domain) (xs ys : List Item) → ItemsFit d xs → ItemsFit d ys → ItemsFit d (xs ++ ys)
both_fit d [] ys h g = g
both_fit d (x ∷ xs) ys h g = (h.0, both_fit d xs ys h.1 g)

one_fits : (d : Domain) (xs : List Item) (x : Item) (more : List Item) → ItemsFit d ((xs ++ x ∷ []) ++ more) → ItemFits d x
one_fits d [] x more h = h.0
one_fits d (y ∷ xs) x more h = one_fits d xs x more h.1

posts_fit : (d : Domain) (sets : Sets) (ps : List Posted) → (AreAllowedMembers d (members_in d sets) → All (PostFits d) (map post_of ps)) → ItemsFit d (map (item_of sets) ps)
posts_fit d sets [] h = tt
posts_fit d sets (p ∷ ps) h = (λ w. all_head (PostFits d) (post_of p) (map post_of ps) (h w), posts_fit d sets ps (λ w. all_tail (PostFits d) (post_of p) (map post_of ps) (h w)))

sent_fit : (d : Domain) (sets : Sets) (to : Target) (ps : List Posted) → (AreAllowedMembers d (members_in d sets) → All (PostFits d) (map post_of ps)) → ItemsFit d (sent_shown sets to ps)
sent_fit d sets (ToOne o) [] h = tt
sent_fit d sets (ToMembers set) [] h = (tt, tt)
sent_fit d sets to (p ∷ ps) h = posts_fit d sets (p ∷ ps) h

goes_fit : (d : Domain) (rest : Program) (r1 : Outcome) (e1 : Env) (ms : List Move) (e2 : Env) (r : Outcome) → (Means d rest e1 ms e2 r → ItemsFit d (shown_moves ms)) → Goes r1 e1 ms e2 r (Means d rest) → ItemsFit d (shown_moves ms)
goes_fit d rest Through e1 ms e2 r ih g = ih g
goes_fit d rest (To s) e1 ms e2 r ih g = subst (λ ns. ItemsFit d (shown_moves ns)) (sym g.0) tt

pub meaning_fits : (d : Domain) (c : Class) (given : List Param) (b : Program) (env : Env) (ms : List Move) (env2 : Env) (r : Outcome) → IsSound d → ProgramFits d c given b → EnvFits c.params given env → Means d b env ms env2 r → ItemsFit d (shown_moves ms)
meaning_fits d c given Nothing env ms env2 r sound f h m = subst (λ ns. ItemsFit d (shown_moves ns)) (sym m.0) tt
meaning_fits d c given (EndIn s) env ms env2 r sound f h m = subst (λ ns. ItemsFit d (shown_moves ns)) (sym m.0) tt
meaning_fits d c given (TerminateIn s) env ms env2 r sound f h m = subst (λ ns. ItemsFit d (shown_moves ns)) (sym m.0) tt
meaning_fits d c given (SetThen p x rest) env ms env2 r sound f h m =
    subst (λ ns. ItemsFit d (shown_moves ns)) (sym m.1) (meaning_fits d c given rest (with_set env p (value_of env x)) m.0 env2 r sound f.1 (env_set c.params given env p x f.0 h) m.2)
meaning_fits d c given (SendNoneThen set rest) env ms env2 r sound f h m =
    let shown = subst (ItemsFit d) (sym (nobody_shown set m.0 m.3)) (tt, tt) in
    subst (λ ns. ItemsFit d (shown_moves ns)) (sym m.2) (both_fit d (items_of (DidSend m.0)) (shown_moves m.1) shown (meaning_fits d c given rest env m.1 env2 r sound f.2 h m.4))
meaning_fits d c given (SendThen t a args rest) env ms env2 r sound f h m =
    let shown = sent_fit d m.0.sets m.0.to m.0.posts
    (λ w. subst (All (PostFits d)) (sym m.3.1) (wanted_fit completes_with_kinds d (members_in d m.0.sets) c.params given env t a args sound w f.0.targets h)) in
    subst (λ ns. ItemsFit d (shown_moves ns)) (sym m.2) (both_fit d (items_of (DidSend m.0)) (shown_moves m.1) shown (meaning_fits d c given rest env m.1 env2 r sound f.1 h m.4))
meaning_fits d c given (IfThen t p q rest) env ms env2 r sound f h m =
    let A = Means d p env m.1 m.3 m.4 in
    let B = Means d q env m.1 m.3 m.4 in
    let within = on_branch (ItemsFit d (shown_moves m.1)) (is_true_over (members_in d m.0.sets) m.0.readings t) A B (λ u. meaning_fits d c given p env m.1 m.3 m.4 sound f.1 h u) (λ u. meaning_fits d c given q env m.1 m.3 m.4 sound f.2 h u) m.7 in
    let between = on_branch (EnvFits c.params given m.3) (is_true_over (members_in d m.0.sets) m.0.readings t) A B (λ u. meanings_keep_kinds d c given p env m.1 m.3 m.4 f.1 h u) (λ u. meanings_keep_kinds d c given q env m.1 m.3 m.4 f.2 h u) m.7 in
    let after = goes_fit d rest m.4 m.3 m.2 env2 r (λ u. meaning_fits d c given rest m.3 m.2 env2 r sound f.3 between u) m.8 in
    subst (λ ns. ItemsFit d (shown_moves ns)) (sym m.5) (tt, subst (ItemsFit d) (sym (shown-append m.1 m.2)) (both_fit d (shown_moves m.1) (shown_moves m.2) within after))
meaning_fits d c given (WaitThen names rest) env ms env2 r sound f h m =
    subst (λ ns. ItemsFit d (shown_moves ns)) (sym m.2) (tt, meaning_fits d c given rest env m.1 env2 r sound f.1 h m.4)
meaning_fits d c given (ChangeThen add o set rest) env ms env2 r sound f h m =
    subst (λ ns. ItemsFit d (shown_moves ns)) (sym m.1) (f.0.may, meaning_fits d c given rest env m.0 env2 r sound f.1 h m.2)

-- ---- what runs

pub record RunFits (d : Domain) (o : ℕ) (own : List Value) (run : Running) : Type 0 where
  pub c : Class
  pub class_is : class_at d o ≡ Some c
  pub given : List Param
  pub program : ProgramFits d c given run.program
  pub env : EnvFits c.params given (env_of own run)

block_fits : (format : Format) (d : Domain) (o a b : ℕ) (args own : List Value) (cs : Option Class) → class_at d o ≡ cs → IsSomeAnd cs (FitsClass d a b) → IsSomeAnd (option_map params_of_action (option_and_then (signature_in a) cs)) (ValuesFit args) → ValuesFit own (option_map_or params_of_class cs []) → RunFits d o own (run_with args (said_of_block format d (tree_of_block d b)))
block_fits format d o a b args own None is h g v = absurd h
block_fits format d o a b args own (Some c) is h g v = go (signature_in a c) h g
  where
    go : (x : Option Signature) → IsSomeAnd x (TakesParams d c (tree_of_block d b)) → IsSomeAnd (option_map params_of_action x) (ValuesFit args) → RunFits d o own (run_with args (said_of_block format d (tree_of_block d b)))
    go None h g = absurd h
    go (Some x) h g = record { c = c; class_is = is; given = x.params; program = said_fits format d c x.params (tree_of_block d b) h; env = record { own_fit = v; given_fit = g } }

pub run_fits : (format : Format) (d : Domain) (J : List Entry) (o : ℕ) (own : List Value) (run : Running) → IsSound d → JournalFits format d J → ValuesFit own (class_params_at d o) → running_at format d o J ≡ Some run → RunFits d o own run
run_fits format d J o own run sound fits v runs = go (open_at o J) (fits.opened o) runs
  where
    block : (l : Letter) → ArgumentsAre d o l.action l.args → (b : Option ℕ) → block_at d o (state_of d o J) l.action ≡ b → option_map (run_with l.args) (option_map (said_of_block format d) (option_map (tree_of_block d) b)) ≡ Some run → RunFits d o own run
    block l args None is e = absurd (cc e)
    block l args (Some b) is e =
        let there = this_block_fits d o (state_of d o J) l.action b (class_fits d o sound) (sym is) in
        subst (RunFits d o own) (same_some (run_with l.args (said_of_block format d (tree_of_block d b))) run e) (block_fits format d o l.action b l.args own (class_at d o) refl there.1 args v)

    go : (l : Option Letter) → ((x : Letter) → l ≡ Some x → ArgumentsAre d o x.action x.args) → option_and_then (running_in format d o J) l ≡ Some run → RunFits d o own run
    go None f e = absurd (cc e)
    go (Some l) f e = block l (f l refl) (block_at d o (state_of d o J) l.action) refl e

-- ---- one more entry

class_is_own : (d : Domain) (o : ℕ) (c : Class) (own : List Value) → class_at d o ≡ Some c → ValuesFit own c.params → ValuesFit own (class_params_at d o)
class_is_own d o c own is h = subst (λ cs. ValuesFit own (option_map_or params_of_class cs [])) (sym is) h

left_fit : (format : Format) (d : Domain) (J : List Entry) (o : ℕ) (own own2 : List Value) → IsSound d → JournalFits format d J → ValuesFit own (class_params_at d o) → LeavesParams format d o J own own2 → ValuesFit own2 (class_params_at d o)
left_fit format d J o own own2 sound fits v h =
    let run = run_fits format d J o own h.done.run sound fits v h.done.runs in
    let env = meanings_keep_kinds d run.c run.given h.done.run.program (env_of own h.done.run) h.done.moves h.env2 h.outcome run.program run.env h.done.means in
    subst (λ p. ValuesFit p (class_params_at d o)) (sym h.left) (class_is_own d o run.c h.env2.own run.class_is env.own_fit)

next_fit : (format : Format) (d : Domain) (J : List Entry) (e : Entry) (o : ℕ) (own own2 : List Value) → IsSound d → JournalFits format d J → ValuesFit own (class_params_at d o) → ParamsNext format d o J e own own2 → ValuesFit own2 (class_params_at d o)
next_fit format d J (Start x s n c args) o own own2 sound fits v h = subst (λ p. ValuesFit p (class_params_at d o)) (sym h) v
next_fit format d J (Post x t w c args) o own own2 sound fits v h = subst (λ p. ValuesFit p (class_params_at d o)) (sym h) v
next_fit format d J (Wait x) o own own2 sound fits v h = subst (λ p. ValuesFit p (class_params_at d o)) (sym h) v
next_fit format d J (Seen x rs) o own own2 sound fits v h = subst (λ p. ValuesFit p (class_params_at d o)) (sym h) v
next_fit format d J (Insert x u set) o own own2 sound fits v h = subst (λ p. ValuesFit p (class_params_at d o)) (sym h) v
next_fit format d J (Remove x u set) o own own2 sound fits v h = subst (λ p. ValuesFit p (class_params_at d o)) (sym h) v
next_fit format d J (NoMember x set) o own own2 sound fits v h = subst (λ p. ValuesFit p (class_params_at d o)) (sym h) v
next_fit format d J (End x Skipped) o own own2 sound fits v h = subst (λ p. ValuesFit p (class_params_at d o)) (sym h) v
next_fit format d J (Kill x c) o own own2 sound fits v h = subst (λ p. ValuesFit p (class_params_at d o)) (sym h) v
next_fit format d J (End x (State s)) o own own2 sound fits v h =
    on_branch (ValuesFit own2 (class_params_at d o)) (is_logical_at d o x) (LeavesParams format d o J own own2) (own2 ≡ own) (λ u. left_fit format d J o own own2 sound fits v u) (λ u. subst (λ p. ValuesFit p (class_params_at d o)) (sym u) v) h

from_less : (format : Format) (d : Domain) (o : ℕ) (past es : List Entry) (e : Entry) (own own2 : List Value) → ParamsFrom format d o past (es ++ e ∷ []) own own2 → (mid : List Value) × ParamsFrom format d o past es own mid × ParamsNext format d o (past ++ es) e mid own2
from_less format d o past [] e own own2 h =
    (own, refl, subst (λ p. ParamsNext format d o p e own own2) (sym (append-nil past)) (subst (ParamsNext format d o past e own) (sym h.2) h.1))
from_less format d o past (x ∷ es) e own own2 h =
    let q = from_less format d o (past ++ x ∷ []) es e h.0 own2 h.2 in
    (q.0, (h.0, h.1, q.1), subst (λ p. ParamsNext format d o p e q.0 own2) (append_assoc past (x ∷ []) es) q.2)

get_fit : (d : Domain) (o : ℕ) (rs : List Request) (n : ℕ) (r : Request) → AllFit d o rs → slice_get rs n ≡ Some r → ArgumentsAre d o r.action r.args
get_fit d o [] n r h e = absurd (cc e)
get_fit d o (x ∷ rs) zero r h e = let is : x ≡ r = cc in subst (λ y. ArgumentsAre d o y.action y.args) is h.0
get_fit d o (x ∷ rs) (suc n) r h e = get_fit d o rs n r h.1 e

start_fits : (format : Format) (d : Domain) (J : List Entry) (x n a : ℕ) (s : Sender) (args : List Value) → JournalFits format d J → MayStart d J x n (record { sender = s; action = a; args = args }) → ArgumentsAre d x a args
start_fits format d J x n a (Operator k) args fits h = h.sent
start_fits format d J x n a (Object y) args fits h = get_fit d x (posts_between y x J) n (record { sender = Object y; action = a; args = args }) (fits.posted y x) h.sent

opened_next : (format : Format) (d : Domain) (J : List Entry) (e : Entry) (o : ℕ) (l : Letter) → JournalFits format d J → MayFollow format d J e → open_next o (open_at o J) e ≡ Some l → ArgumentsAre d o l.action l.args
opened_next format d J (Start x s n a args) o l fits h e = go (o == x) refl e
  where
    go : (b : Bool) → (o == x) ≡ b → (if b then Some (record { sender = s; number = n; action = a; args = args }) else open_at o J) ≡ Some l → ArgumentsAre d o l.action l.args
    go false q e = fits.opened o l e
    go true q e =
        let is = same_some {X = Letter} (record { sender = s; number = n; action = a; args = args }) l e in
        subst (λ y. ArgumentsAre d o y.action y.args) is (subst (λ y. ArgumentsAre d y a args) (sym (eqb-true o x q)) (start_fits format d J x n a s args fits h))
opened_next format d J (Post x t v a args) o l fits h e = same (o == x) e
  where
    same : (b : Bool) → (if b then open_at o J else open_at o J) ≡ Some l → ArgumentsAre d o l.action l.args
    same true e = fits.opened o l e
    same false e = fits.opened o l e
opened_next format d J (Wait x) o l fits h e = same (o == x) e
  where
    same : (b : Bool) → (if b then open_at o J else open_at o J) ≡ Some l → ArgumentsAre d o l.action l.args
    same true e = fits.opened o l e
    same false e = fits.opened o l e
opened_next format d J (Seen x rs) o l fits h e = same (o == x) e
  where
    same : (b : Bool) → (if b then open_at o J else open_at o J) ≡ Some l → ArgumentsAre d o l.action l.args
    same true e = fits.opened o l e
    same false e = fits.opened o l e
opened_next format d J (Insert x u set) o l fits h e = same (o == x) e
  where
    same : (b : Bool) → (if b then open_at o J else open_at o J) ≡ Some l → ArgumentsAre d o l.action l.args
    same true e = fits.opened o l e
    same false e = fits.opened o l e
opened_next format d J (Remove x u set) o l fits h e = same (o == x) e
  where
    same : (b : Bool) → (if b then open_at o J else open_at o J) ≡ Some l → ArgumentsAre d o l.action l.args
    same true e = fits.opened o l e
    same false e = fits.opened o l e
opened_next format d J (NoMember x set) o l fits h e = same (o == x) e
  where
    same : (b : Bool) → (if b then open_at o J else open_at o J) ≡ Some l → ArgumentsAre d o l.action l.args
    same true e = fits.opened o l e
    same false e = fits.opened o l e
opened_next format d J (End x r) o l fits h e = gone (o == x) e
  where
    gone : (b : Bool) → (if b then None else open_at o J) ≡ Some l → ArgumentsAre d o l.action l.args
    gone true e = absurd (cc e)
    gone false e = fits.opened o l e
opened_next format d J (Kill x c) o l fits h e = gone (o == x) e
  where
    gone : (b : Bool) → (if b then None else open_at o J) ≡ Some l → ArgumentsAre d o l.action l.args
    gone true e = absurd (cc e)
    gone false e = fits.opened o l e

shown_fits : (format : Format) (d : Domain) (J : List Entry) (o : ℕ) (item : Item) → IsSound d → JournalFits format d J → ShowsNext format d J o item → ItemFits d item
shown_fits format d J o item sound fits h =
    let run = run_fits format d J o h.own h.run sound fits (fits.params o h.own h.params) h.runs in
    let all = meaning_fits d run.c run.given h.run.program (env_of h.own h.run) h.shows.0 h.shows.1 h.shows.2 sound run.program run.env h.shows.4 in
    one_fits d (shown_of d o J) item h.shows.3 (subst (ItemsFit d) h.shows.5 all)

no_request : (d : Domain) (o : ℕ) (b : Bool) → AllFit d o (if b then [] else [])
no_request d o true = tt
no_request d o false = tt

posted_next : (format : Format) (d : Domain) (J : List Entry) (e : Entry) (a o : ℕ) → IsSound d → JournalFits format d J → MayFollow format d J e → AllFit d o (post_in a o e)
posted_next format d J (Start x s n c args) a o sound fits h = no_request d o (a == x)
posted_next format d J (Wait x) a o sound fits h = no_request d o (a == x)
posted_next format d J (Seen x rs) a o sound fits h = no_request d o (a == x)
posted_next format d J (Insert x u set) a o sound fits h = no_request d o (a == x)
posted_next format d J (Remove x u set) a o sound fits h = no_request d o (a == x)
posted_next format d J (NoMember x set) a o sound fits h = no_request d o (a == x)
posted_next format d J (End x r) a o sound fits h = no_request d o (a == x)
posted_next format d J (Kill x c) a o sound fits h = no_request d o (a == x)
posted_next format d J (Post x t Full c args) a o sound fits h = no_request d o (a == x)
posted_next format d J (Post x t Dead c args) a o sound fits h = no_request d o (a == x)
posted_next format d J (Post x t (Accepted n) c args) a o sound fits h = go (a == x) (o == t) refl
  where
    go : (b k : Bool) → (o == t) ≡ k → AllFit d o (if b then (if o == t then record { sender = Object x; action = c; args = args } ∷ [] else []) else [])
    go false k e = tt
    go true false e = subst (λ z. AllFit d o (if z then record { sender = Object x; action = c; args = args } ∷ [] else [])) (sym e) tt
    go true true e =
        let there : ArgumentsAre d t c args = shown_fits format d J x (Sent (sets_after d J) t (Accepted n) c args) sound fits h.0 fits.members in
        subst (λ z. AllFit d o (if z then record { sender = Object x; action = c; args = args } ∷ [] else [])) (sym e) (subst (λ y. ArgumentsAre d y c args) (sym (eqb-true o t e)) there, tt)

all_both : (d : Domain) (o : ℕ) (xs ys : List Request) → AllFit d o xs → AllFit d o ys → AllFit d o (xs ++ ys)
all_both d o [] ys h g = g
all_both d o (x ∷ xs) ys h g = (h.0, all_both d o xs ys h.1 g)

-- a set that was changed has no members but such as it may come to have
change_within : (d : Domain) (sets : Sets) (add : Bool) (o set : ℕ) → (add ≡ true → Contains (may_at d set) o) → AreAllowedMembers d (members_in d sets) → AreAllowedMembers d (members_in d (with_change d sets add o set))
change_within d sets add o set may h other =
    change_written (All (Contains (may_at d other))) d sets add o set other (h other)
    (λ e. subst (λ s. All (Contains (may_at d s)) (changed_to add o (members_in d sets set))) e (changed add may))
  where
    changed : (b : Bool) → (b ≡ true → Contains (may_at d set) o) → All (Contains (may_at d set)) (changed_to b o (members_in d sets set))
    changed false may = All-filter (λ y. not (o == y)) (Contains (may_at d set)) (members_in d sets set) (h set)
    changed true may = go (list_any (nat_eq o) (members_in d sets set))
      where
        go : (b : Bool) → All (Contains (may_at d set)) (if b then members_in d sets set else (members_in d sets set ++ o ∷ []))
        go true = h set
        go false = All-append (Contains (may_at d set)) (members_in d sets set) (o ∷ []) (h set) (All-cons (Contains (may_at d set)) o [] (may refl) (All-nil (Contains (may_at d set))))

members_next : (format : Format) (d : Domain) (J : List Entry) (e : Entry) → IsSound d → JournalFits format d J → MayFollow format d J e → AreAllowedMembers d (members_in d (sets_next d (sets_after d J) e))
members_next format d J (Start x s n a args) sound fits h = fits.members
members_next format d J (Post x t v a args) sound fits h = fits.members
members_next format d J (Wait x) sound fits h = fits.members
members_next format d J (Seen x rs) sound fits h = fits.members
members_next format d J (End x r) sound fits h = fits.members
members_next format d J (Kill x c) sound fits h = fits.members
members_next format d J (Insert x o set) sound fits h =
    change_within d (sets_after d J) true o set (shown_fits format d J x (Turned true o set) sound fits (in_two format (ShowsNext format d J x (Turned true o set)) h)) fits.members
members_next format d J (Remove x o set) sound fits h = change_within d (sets_after d J) false o set (λ e. absurd (cc e)) fits.members
members_next format d J (NoMember x set) sound fits h = fits.members

journal_next : (format : Format) (d : Domain) (J : List Entry) (e : Entry) → IsSound d → JournalFits format d J → MayFollow format d J e → JournalFits format d (J ++ e ∷ [])
journal_next format d J e sound fits h = record {
  params = λ o own2 p. let q = from_less format d o [] J e (initial_params d o) own2 p in next_fit format d J e o q.0 own2 sound fits (fits.params o q.0 q.1) q.2;
  opened = λ o l is. opened_next format d J e o l fits h (sym (open_more o J e) ∙ is);
  posted = λ a o. subst (AllFit d o) (sym (posts_more a o J e)) (all_both d o (posts_between a o J) (post_in a o e) (fits.posted a o) (posted_next format d J e a o sound fits h));
  members = subst (λ k. AreAllowedMembers d (members_in d k)) (sym (sets_more d J e)) (members_next format d J e sound fits h);
}

first_fit : (p : Param) (v : Option Value) (vs : List Value) (ps : List Param) → IsSomeAnd v (IsOfKind p.kind) → ValuesFit vs ps → ValuesFit (cons_option v vs) (p ∷ ps)
first_fit p None vs ps h g = absurd h
first_fit p (Some v) vs ps h g = (h, g)

initial_fit : (ps : List Param) → All ClassParamFits ps → ValuesFit (filter_map first_value ps) ps
initial_fit [] h = tt
initial_fit (p ∷ ps) h = first_fit p p.value (filter_map first_value ps) ps (all_head ClassParamFits p ps h) (initial_fit ps (all_tail ClassParamFits p ps h))

nothing_fits : (format : Format) (d : Domain) → IsSound d → JournalFits format d []
nothing_fits format d sound = record {
  params = λ o own is. subst (λ p. ValuesFit p (class_params_at d o)) (sym is) (initial_fit (class_params_at d o) (class_params_fit d o (class_fits d o sound)).0);
  opened = λ o l is. absurd (cc is);
  posted = λ a o. tt;
  members = λ set. subst (All (Contains (may_at d set))) (sym (begin_declared d set)) (members_may d set sound);
}

from_fits : (format : Format) (d : Domain) (past es : List Entry) → IsSound d → JournalFits format d past → IsLegalFrom format d past es → JournalFits format d (past ++ es)
from_fits format d past [] sound fits h = subst (JournalFits format d) (sym (append-nil past)) fits
from_fits format d past (e ∷ es) sound fits h =
    subst (JournalFits format d) (append_assoc past (e ∷ []) es) (from_fits format d (past ++ e ∷ []) es sound (journal_next format d past e sound fits h.0.1) h.1)

pub legal_fits : (format : Format) (d : Domain) (J : List Entry) → IsSound d → IsLegal format d J → JournalFits format d J
legal_fits format d J sound h = from_fits format d [] J sound (nothing_fits format d sound) h

pub members_are_few : (format : Format) (d : Domain) (J : List Entry) → IsSound d → IsLegal format d J → AreAllowedMembers d (members_in d (sets_after d J))
members_are_few format d J sound h = (legal_fits format d J sound h).members
