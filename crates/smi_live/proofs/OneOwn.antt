-- One step of a manager's own can be made, and one thing becomes of a line from outside.
use Rattle.std.proofs.Common.{◌≡◌, ◌∙◌, sym, ap, refl, subst, ◌+◌, ◌++◌, ◌∷◌, [], ◌⊎◌, ℕ, Bool, true, false, List, Option, Some, None, Result, Ok, Err, arith, inl, inr, codes}
use Rattle.std.specs.Prelude.{is_some}
use Rattle.sml_text.specs.Laws.{SomeReading}
use Rattle.sml_domain.specs.Domain.{Domain}
use Rattle.sml_domain.specs.Lookups.{object_named, name_of_object}
use Rattle.sml_domain.proofs.Numbers.{has_there}
use Rattle.smi_journal_entries.specs.Words.{is_open}
use Rattle.smi_world.specs.declared.step.Step.{Step}
use Rattle.smi_world.specs.declared.step.Step.TheVariants as step
use Rattle.smi_world.specs.declared.step.Answer.{Answer}
use Rattle.smi_world.specs.declared.step.Answer.TheVariants as answer
use Rattle.smi_world.specs.World.{Setup, World}
use Rattle.smi_world.specs.Steps.{Makes}
use Rattle.smi_world.proofs.Free.{free_go, free_start}
use Rattle.smi_world_rest.specs.OwnSteps.{IsIdle, IsOwnStep}
use Rattle.smi_lines.specs.declared.line.LineError.{LineError}
use Rattle.smi_lines.specs.declared.line.LineError.TheVariants as line
use Rattle.smi_core.specs.Machines.{CoreView}
use Rattle.smi_core.specs.Output.{LineWrites}
use Rattle.smi_core.proofs.OneOutput.{line_one, reads_one}
use Rattle.smi_live_once.specs.declared.table.Verdict.{Verdict}
use Rattle.smi_live_once.specs.declared.table.Verdict.TheVariants as once
use Rattle.smi_live_once.specs.Forms.{is_barred_line, marked_text, told_text}
use Rattle.smi_live_once.specs.Making.{Keeper, KeeperDoes, MakesKept}
use Rattle.smi_live_once.specs.Tables.{OnceTold, verdict_in}
use Rattle.smi_live_once.proofs.Again.{made_one}
use Rattle.smi_live_once.proofs.Reading.{one_asked}
use Rattle.smi_live.specs.Limiting.{HasNoStartLeft, HasRoomFor, HasStartsLeft, IsKept, IsUnkept, KeepsOrTells, LacksRoomFor, line_for_bad, logged, room_after}
use Rattle.smi_live.specs.Managing.{AllRest, IsAtObject, IsBefore, IsIdleObject, IsMadeAt, IsOwnLine, ManagerView, StandsFor, StandsForOnce, ManagerTakesLine, TakesAsked, TakesFirst, TakesLine, TakesNew, TakesOnce, TakesOther, TakesOutside, TakesPlain, TakesRefused, TakesTurn, TellsAgain, TellsOnly, first_in, keeper_of, makes_line}
use Rattle.smi_live.proofs.Kept.{one_kept}
use Rattle.smi_live.proofs.Resting.{no_go, no_start}

-- ---- an idle object makes nothing

not_idle : (a : Answer) → (a ≡ answer.Still → ⊥) → IsIdle (Ok a) → ⊥
not_idle answer.Still moves h = moves refl
not_idle (answer.Accepted n args) moves h = h
not_idle (answer.Entries first count) moves h = h
not_idle (answer.Changed p v) moves h = h

idle_made : (m : CoreView) (o : ℕ) (s : Step) (a : Answer) (w2 : World) → IsIdleObject m o → IsAtObject m.setup.domain o s → Makes m.setup m.world s a w2 → IsIdle (Ok a)
idle_made m o (step.Start x) a w2 i (inl named) h = no_start m o i.start i.starts i.no_start x named a w2 h
idle_made m o (step.Go x) a w2 i (inr named) h = no_go m o i.go i.goes i.no_go x named a w2 h
idle_made m o (step.Start x) a w2 i (inr not) h = absurd not
idle_made m o (step.Go x) a w2 i (inl not) h = absurd not
idle_made m o (step.Request k x y args) a w2 i (inl not) h = absurd not
idle_made m o (step.Request k x y args) a w2 i (inr not) h = absurd not
idle_made m o (step.Answer x y) a w2 i (inl not) h = absurd not
idle_made m o (step.Answer x y) a w2 i (inr not) h = absurd not
idle_made m o (step.Fault x) a w2 i (inl not) h = absurd not
idle_made m o (step.Fault x) a w2 i (inr not) h = absurd not
idle_made m o (step.Kill x k) a w2 i (inl not) h = absurd not
idle_made m o (step.Kill x k) a w2 i (inr not) h = absurd not

not_made : (m : CoreView) (o : ℕ) (l : List ℕ) (m2 : CoreView) → IsIdleObject m o → IsMadeAt m l o m2 → ⊥
not_made m o l m2 i p = not_idle p.made.gives p.made.moves (idle_made m o p.step p.made.gives m2.world i p.of p.made.steps)

-- ---- one object has its turn

either_first : (first o p : ℕ) → (o ≡ p) ⊎ (IsBefore first o p ⊎ IsBefore first p o)
either_first first o p = grind arith

one_object : (m : ManagerView) (l k : List ℕ) (m2 m3 : ManagerView) (p : TakesTurn m l m2) (q : TakesTurn m k m3) → (p.object ≡ q.object) ⊎ (IsBefore (first_in m) p.object q.object ⊎ IsBefore (first_in m) q.object p.object) → p.object ≡ q.object
one_object m l k m2 m3 p q (inl e) = e
one_object m l k m2 m3 p q (inr (inl b)) = absurd (not_made m.core p.object p.line m2.core (q.before p.object p.within b) p.made)
one_object m l k m2 m3 p q (inr (inr b)) = absurd (not_made m.core q.object q.line m3.core (p.before q.object q.within b) q.made)

-- ---- one step can be made at it

one_name : (d : Domain) (o : ℕ) (x y : List ℕ) → object_named d x ≡ Some o → object_named d y ≡ Some o → x ≡ y
one_name d o x y p q =
    let e : ◌≡◌ {A = Option (List ℕ)} (Some x) (Some y) = sym (has_there name_of_object d.objects o x p) ∙ has_there name_of_object d.objects o y q in
    cc e

closed_open : (m : Setup) (w : World) (x y : List ℕ) (o : ℕ) (a b : Answer) (w2 w3 : World) → object_named m.domain x ≡ Some o → object_named m.domain y ≡ Some o → Makes m w (step.Start x) a w2 → Makes m w (step.Go y) b w3 → ⊥
closed_open m w x y o a b w2 w3 p q s g =
    let closed : is_open o w.journal ≡ false = ap is_some (free_start m w x o s.free p).closed in
    let opened : is_open o w.journal ≡ true = (free_go m w y o g.free q).opened in
    let no : ◌≡◌ {A = Bool} true false = sym opened ∙ closed in
    cc no

same_line : (l k x y : List ℕ) (word : List ℕ) → x ≡ y → l ≡ word ++ x → k ≡ word ++ y → l ≡ k
same_line l k x y word e p q = p ∙ ap (λ n. word ++ n) e ∙ sym q

one_line_of : (m : Setup) (w : World) (o : ℕ) (s t : Step) (a b : Answer) (w2 w3 : World) (l k : List ℕ) → IsAtObject m.domain o s → IsAtObject m.domain o t → Makes m w s a w2 → Makes m w t b w3 → IsOwnLine s l → IsOwnLine t k → l ≡ k
one_line_of m w o (step.Start x) (step.Start y) a b w2 w3 l k (inl p) (inl q) g h e f = same_line l k x y (codes "start ") (one_name m.domain o x y p q) e f
one_line_of m w o (step.Go x) (step.Go y) a b w2 w3 l k (inr p) (inr q) g h e f = same_line l k x y (codes "go ") (one_name m.domain o x y p q) e f
one_line_of m w o (step.Start x) (step.Go y) a b w2 w3 l k (inl p) (inr q) g h e f = absurd (closed_open m w x y o a b w2 w3 p q g h)
one_line_of m w o (step.Go x) (step.Start y) a b w2 w3 l k (inr p) (inl q) g h e f = absurd (closed_open m w y x o b a w3 w2 q p h g)
one_line_of m w o (step.Start x) t a b w2 w3 l k (inr not) at g h e f = absurd not
one_line_of m w o (step.Go x) t a b w2 w3 l k (inl not) at g h e f = absurd not
one_line_of m w o (step.Start x) (step.Start y) a b w2 w3 l k (inl p) (inr not) g h e f = absurd not
one_line_of m w o (step.Go x) (step.Go y) a b w2 w3 l k (inr p) (inl not) g h e f = absurd not
one_line_of m w o (step.Start x) (step.Go y) a b w2 w3 l k (inl p) (inl not) g h e f = absurd not
one_line_of m w o (step.Go x) (step.Start y) a b w2 w3 l k (inr p) (inr not) g h e f = absurd not
one_line_of m w o (step.Start x) (step.Request i y z args) a b w2 w3 l k (inl p) at g h e f = absurd f
one_line_of m w o (step.Start x) (step.Answer y z) a b w2 w3 l k (inl p) at g h e f = absurd f
one_line_of m w o (step.Start x) (step.Fault y) a b w2 w3 l k (inl p) at g h e f = absurd f
one_line_of m w o (step.Start x) (step.Kill y i) a b w2 w3 l k (inl p) at g h e f = absurd f
one_line_of m w o (step.Go x) (step.Request i y z args) a b w2 w3 l k (inr p) at g h e f = absurd f
one_line_of m w o (step.Go x) (step.Answer y z) a b w2 w3 l k (inr p) at g h e f = absurd f
one_line_of m w o (step.Go x) (step.Fault y) a b w2 w3 l k (inr p) at g h e f = absurd f
one_line_of m w o (step.Go x) (step.Kill y i) a b w2 w3 l k (inr p) at g h e f = absurd f
one_line_of m w o (step.Request i y z args) t a b w2 w3 l k at at2 g h e f = absurd e
one_line_of m w o (step.Answer y z) t a b w2 w3 l k at at2 g h e f = absurd e
one_line_of m w o (step.Fault y) t a b w2 w3 l k at at2 g h e f = absurd e
one_line_of m w o (step.Kill y i) t a b w2 w3 l k at at2 g h e f = absurd e

same_manager : (a b : ManagerView) → keeper_of a ≡ keeper_of b → a.turn ≡ b.turn → a.room ≡ b.room → a ≡ b
same_manager a b p q r =
    ap (λ (k : Keeper CoreView). record { core = k.core; turn = a.turn; told = k.told; room = a.room }) p
    ∙ ap (λ t. record { core = b.core; turn = t; told = b.told; room = a.room }) q
    ∙ ap (λ s. record { core = b.core; turn = b.turn; told = b.told; room = s }) r

-- the two lines of one turn are one
turn_line : (m : ManagerView) (l k : List ℕ) (m2 m3 : ManagerView) (p : TakesTurn m l m2) (q : TakesTurn m k m3) → p.object ≡ q.object → l ≡ k
turn_line m l k m2 m3 p q e =
    let r : IsMadeAt m.core q.line p.object m3.core = subst (λ o. IsMadeAt m.core q.line o m3.core) (sym e) q.made in
    p.keeps ∙ ap logged (one_line_of m.core.setup m.core.world p.object p.made.step r.step p.made.made.gives r.made.gives m2.core.world m3.core.world p.line q.line p.made.of r.of p.made.made.steps r.made.steps p.made.made.own r.made.own) ∙ sym q.keeps

-- a text of a line is not empty
some_text : (line kept : List ℕ) → kept ≡ logged line → kept ≡ [] → ⊥
some_text [] kept e f = let g : ◌≡◌ {A = List ℕ} (10 ∷ []) [] = sym e ∙ f in cc g
some_text (b ∷ bs) kept e f = let g : ◌≡◌ {A = List ℕ} (b ∷ (bs ++ 10 ∷ [])) [] = sym e ∙ f in cc g

-- where a line is kept, it was made
was_made : (k : Keeper CoreView) (line kept out : List ℕ) (k2 : Keeper CoreView) → kept ≡ logged line → KeeperDoes LineWrites k kept out k2 → MakesKept LineWrites k kept out k2
was_made k line kept out k2 e (inl h) = h
was_made k line kept out k2 e (inr h) = absurd (some_text line kept e h.keeps)

-- what is kept decides what was told, and what it leads to
does_one : SomeReading → (k : Keeper CoreView) (line a b out out2 : List ℕ) (k2 k3 : Keeper CoreView) → a ≡ logged line → a ≡ b → KeeperDoes LineWrites k a out k2 → KeeperDoes LineWrites k b out2 k3 → (out ≡ out2) × (k2 ≡ k3)
does_one some k line a b out out2 k2 k3 e same p q =
    let q2 = subst (λ x. KeeperDoes LineWrites k x out2 k3) (sym same) q in
    made_one LineWrites (line_one some) k a out out2 k2 k3 (was_made k line a out k2 e p) (was_made k line a out2 k3 e q2)

pub own_one : SomeReading → (m : ManagerView) (l k out out2 : List ℕ) (m2 m3 : ManagerView) → makes_line m l out m2 → TakesTurn m l m2 → makes_line m k out2 m3 → TakesTurn m k m3 → (l ≡ k) × (out ≡ out2) × (m2 ≡ m3)
own_one some m l k out out2 m2 m3 a p b q =
    let e = one_object m l k m2 m3 p q (either_first (first_in m) p.object q.object) in
    let line = turn_line m l k m2 m3 p q e in
    let w = does_one some (keeper_of m) p.line l k out out2 (keeper_of m2) (keeper_of m3) p.keeps line a b in
    (line, w.0, same_manager m2 m3 w.1 (p.next ∙ ap (λ o. o + 1) e ∙ sym q.next) (p.leaves ∙ ap (room_after m.room) line ∙ sym q.leaves))

-- ---- where all rests, no turn is taken

is_own_step : (s : Step) (l : List ℕ) → IsOwnLine s l → IsOwnStep s
is_own_step (step.Start x) l h = tt
is_own_step (step.Go x) l h = tt
is_own_step (step.Request k x y args) l h = h
is_own_step (step.Answer x y) l h = h
is_own_step (step.Fault x) l h = h
is_own_step (step.Kill x k) l h = h

pub no_own : (m : ManagerView) (l : List ℕ) (m2 : ManagerView) → AllRest m → TakesTurn m l m2 → ⊥
no_own m l m2 rests p =
    let made = p.made.made in
    not_idle made.gives made.moves (rests p.made.step (is_own_step p.made.step p.line made.own) (Ok made.gives) m2.core.world made.steps)

-- ---- one thing becomes of a line from outside

no_want : (r : Result (Option Step) LineError) (asked kept : List ℕ) → StandsFor r asked kept → r ≡ Err line.Memory → ⊥
no_want r asked kept h e = subst (λ x. StandsFor x asked kept) e h

once_kept : (r : Result (Option Step) LineError) (asked l k : List ℕ) → StandsForOnce r asked l → StandsForOnce r asked k → l ≡ k
once_kept (Err line.BadLine) asked l k p q = p ∙ sym q
once_kept (Err line.Memory) asked l k p q = absurd p
once_kept (Ok None) asked l k p q = p ∙ sym q
once_kept (Ok (Some (step.Start x))) asked l k p q = p ∙ sym q
once_kept (Ok (Some (step.Go x))) asked l k p q = p ∙ sym q
once_kept (Ok (Some (step.Request i x y args))) asked l k p q = p ∙ sym q
once_kept (Ok (Some (step.Answer x y))) asked l k p q = p ∙ sym q
once_kept (Ok (Some (step.Fault x))) asked l k p q = p ∙ sym q
once_kept (Ok (Some (step.Kill x i))) asked l k p q = p ∙ sym q

no_want_once : (r : Result (Option Step) LineError) (asked kept : List ℕ) → StandsForOnce r asked kept → r ≡ Err line.Memory → ⊥
no_want_once r asked kept h e = subst (λ x. StandsForOnce x asked kept) e h

new_kept : SomeReading → (marked a b : List ℕ) → TakesNew marked a → TakesNew marked b → a ≡ b
new_kept some marked a b x y =
    let p = x.taken in
    let q = y.taken in
    let read = reads_one some marked q.read p.read (no_want_once q.read marked y.line q.stands) (no_want_once p.read marked x.line p.stands) q.reads p.reads in
    x.keeps ∙ ap logged (once_kept p.read marked x.line y.line p.stands (subst (λ r. StandsForOnce r marked y.line) read q.stands)) ∙ sym y.keeps

-- from one keeper, one thing is kept and told, and it leads to one
abbrev pub IsSame : List ℕ → List ℕ → List ℕ → List ℕ → Keeper CoreView → Keeper CoreView → Type 0
IsSame a b out out2 k2 k3 = (a ≡ b) × (out ≡ out2) × (k2 ≡ k3)

only_one : (k : Keeper CoreView) (name : List ℕ) (number : ℕ) (t u a b out out2 : List ℕ) (k2 k3 : Keeper CoreView) → t ≡ u → TellsOnly k name number t a out k2 → TellsOnly k name number u b out2 k3 → IsSame a b out out2 k2 k3
only_one k name number t u a b out out2 k2 k3 e p q = (p.keeps ∙ sym q.keeps, p.tells ∙ ap (told_text name number) e ∙ sym q.tells, p.stays ∙ sym q.stays)

again_one : (k : Keeper CoreView) (name : List ℕ) (number : ℕ) (a b out out2 : List ℕ) (k2 k3 : Keeper CoreView) → TellsAgain k name number a out k2 → TellsAgain k name number b out2 k3 → IsSame a b out out2 k2 k3
again_one k name number a b out out2 k2 k3 p q =
    let f : ◌≡◌ {A = Option OnceTold} (Some p.last) (Some q.last) = sym p.is_last ∙ q.is_last in
    let e : p.last ≡ q.last = cc f in
    only_one k name number p.last.answer q.last.answer a b out out2 k2 k3 (ap (λ (t : OnceTold). t.answer) e) p.only q.only

-- where a line is kept, and one line, what was told and what it leads to are one
line_same : SomeReading → (k : Keeper CoreView) (line a b out out2 : List ℕ) (k2 k3 : Keeper CoreView) → KeeperDoes LineWrites k a out k2 → KeeperDoes LineWrites k b out2 k3 → a ≡ logged line → a ≡ b → IsSame a b out out2 k2 k3
line_same some k line a b out out2 k2 k3 p q e same =
    let w = does_one some k line a b out out2 k2 k3 e same p q in
    (same, w.0, w.1)

-- where nothing is kept, nothing is made
alone : (k : Keeper CoreView) (kept out : List ℕ) (k2 : Keeper CoreView) → KeeperDoes LineWrites k kept out k2 → kept ≡ [] → k2 ≡ k
alone k kept out k2 (inl h) e = absurd (some_text h.line kept h.keeps e)
alone k kept out k2 (inr h) e = h.stays

told_same : (k : Keeper CoreView) (a b out out2 : List ℕ) (k2 k3 : Keeper CoreView) → KeeperDoes LineWrites k a out k2 → KeeperDoes LineWrites k b out2 k3 → a ≡ [] → b ≡ [] → out ≡ out2 → IsSame a b out out2 k2 k3
told_same k a b out out2 k2 k3 x y e f t = (e ∙ sym f, t, alone k a out k2 x e ∙ sym (alone k b out2 k3 y f))

-- a line is kept or not
too_little : (room : Option ℕ) (line : List ℕ) → HasRoomFor room line → LacksRoomFor room line → ⊥
too_little None line h g = g
too_little (Some room) line h g = omega (arith, h, g)

request_or_not : (room : Option ℕ) (m : CoreView) (line : List ℕ) → HasRoomFor room line → HasStartsLeft m → LacksRoomFor room line ⊎ HasNoStartLeft m → ⊥
request_or_not room m line h s (inl g) = too_little room line h g
request_or_not room m line h s (inr g) = omega (arith, s, g)

kept_or_not : (room : Option ℕ) (m : CoreView) (r : Result (Option Step) LineError) (l : List ℕ) → IsKept room m r l → IsUnkept room m r l → ⊥
kept_or_not room m (Err line.BadLine) l p q = too_little room l p q
kept_or_not room m (Err line.Memory) l p q = p
kept_or_not room m (Ok None) l p q = too_little room l p q
kept_or_not room m (Ok (Some (step.Start x))) l p q = too_little room l p q
kept_or_not room m (Ok (Some (step.Go x))) l p q = too_little room l p q
kept_or_not room m (Ok (Some (step.Request i x y args))) l p q = request_or_not room m l p.0 p.1 q
kept_or_not room m (Ok (Some (step.Answer x y))) l p q = q
kept_or_not room m (Ok (Some (step.Fault x))) l p q = q
kept_or_not room m (Ok (Some (step.Kill x i))) l p q = q

limits_one : SomeReading → (room : Option ℕ) (k : Keeper CoreView) (r : Result (Option Step) LineError) (l a b out out2 : List ℕ) (k2 k3 : Keeper CoreView) → KeeperDoes LineWrites k a out k2 → KeeperDoes LineWrites k b out2 k3
    → KeepsOrTells room k.core r l a out → KeepsOrTells room k.core r l b out2 → IsSame a b out out2 k2 k3
limits_one some room k r l a b out out2 k2 k3 x y (inl p) (inl q) = line_same some k l a b out out2 k2 k3 x y p.1 (p.1 ∙ sym q.1)
limits_one some room k r l a b out out2 k2 k3 x y (inl p) (inr q) = absurd (kept_or_not room k.core r l p.0 q.0)
limits_one some room k r l a b out out2 k2 k3 x y (inr p) (inl q) = absurd (kept_or_not room k.core r l q.0 p.0)
limits_one some room k r l a b out out2 k2 k3 x y (inr p) (inr q) = told_same k a b out out2 k2 k3 x y p.1 q.1 (p.2 ∙ sym q.2)

plain_one : SomeReading → (room : Option ℕ) (k : Keeper CoreView) (asked a b out out2 : List ℕ) (k2 k3 : Keeper CoreView) → KeeperDoes LineWrites k a out k2 → KeeperDoes LineWrites k b out2 k3
    → TakesPlain room k.core asked a out → TakesPlain room k.core asked b out2 → IsSame a b out out2 k2 k3
plain_one some room k asked a b out out2 k2 k3 x y s t =
    let p = s.taken in
    let q = t.taken in
    let read = reads_one some asked q.read p.read (no_want q.read asked t.line q.stands) (no_want p.read asked s.line p.stands) q.reads p.reads in
    let line = one_kept p.read asked s.line t.line p.stands (subst (λ r. StandsFor r asked t.line) read q.stands) in
    let limits = subst (λ l. KeepsOrTells room k.core p.read l b out2) (sym line) (subst (λ r. KeepsOrTells room k.core r t.line b out2) read t.limits) in
    limits_one some room k p.read s.line a b out out2 k2 k3 x y s.limits limits

refused_one : SomeReading → (room : Option ℕ) (k : Keeper CoreView) (a b out out2 : List ℕ) (k2 k3 : Keeper CoreView) → KeeperDoes LineWrites k a out k2 → KeeperDoes LineWrites k b out2 k3
    → TakesRefused room a out → TakesRefused room b out2 → IsSame a b out out2 k2 k3
refused_one some room k a b out out2 k2 k3 x y (inl p) (inl q) = line_same some k line_for_bad a b out out2 k2 k3 x y p.1 (p.1 ∙ sym q.1)
refused_one some room k a b out out2 k2 k3 x y (inl p) (inr q) = absurd (too_little room line_for_bad p.0 q.0)
refused_one some room k a b out out2 k2 k3 x y (inr p) (inl q) = absurd (too_little room line_for_bad q.0 p.0)
refused_one some room k a b out out2 k2 k3 x y (inr p) (inr q) = told_same k a b out out2 k2 k3 x y p.1 q.1 (p.2 ∙ sym q.2)

first_one : SomeReading → (room : Option ℕ) (k : Keeper CoreView) (name : List ℕ) (number : ℕ) (marked a b out out2 : List ℕ) (k2 k3 : Keeper CoreView) → KeeperDoes LineWrites k a out k2 → KeeperDoes LineWrites k b out2 k3
    → TakesFirst room k name number marked a out k2 → TakesFirst room k name number marked b out2 k3 → IsSame a b out out2 k2 k3
first_one some room k name number marked a b out out2 k2 k3 x y (inl p) (inl q) = line_same some k p.2.line a b out out2 k2 k3 x y p.2.keeps (new_kept some marked a b p.2 q.2)
first_one some room k name number marked a b out out2 k2 k3 x y (inl p) (inr q) = absurd (request_or_not room k.core marked p.0 p.1 q.0)
first_one some room k name number marked a b out out2 k2 k3 x y (inr p) (inl q) = absurd (request_or_not room k.core marked q.0 q.1 p.0)
first_one some room k name number marked a b out out2 k2 k3 x y (inr p) (inr q) = only_one k name number _ _ a b out out2 k2 k3 refl p.1 q.1

once_one : SomeReading → (v : Verdict) (room : Option ℕ) (k : Keeper CoreView) (name : List ℕ) (number : ℕ) (request a b out out2 : List ℕ) (k2 k3 : Keeper CoreView) → KeeperDoes LineWrites k a out k2 → KeeperDoes LineWrites k b out2 k3
    → TakesOnce v room k name number request a out k2 → TakesOnce v room k name number request b out2 k3 → IsSame a b out out2 k2 k3
once_one some once.New room k name number request a b out out2 k2 k3 x y p q = first_one some room k name number (marked_text request name number) a b out out2 k2 k3 x y p q
once_one some once.Again room k name number request a b out out2 k2 k3 x y p q = again_one k name number a b out out2 k2 k3 p q
once_one some once.Old room k name number request a b out out2 k2 k3 x y p q = only_one k name number _ _ a b out out2 k2 k3 refl p q
once_one some once.TooMany room k name number request a b out out2 k2 k3 x y p q = only_one k name number _ _ a b out out2 k2 k3 refl p q

other_one : SomeReading → (room : Option ℕ) (k : Keeper CoreView) (asked a b out out2 : List ℕ) (k2 k3 : Keeper CoreView) → KeeperDoes LineWrites k a out k2 → KeeperDoes LineWrites k b out2 k3
    → TakesOther room k.core asked a out → TakesOther room k.core asked b out2 → IsSame a b out out2 k2 k3
other_one some room k asked a b out out2 k2 k3 x y (inl p) (inl q) = refused_one some room k a b out out2 k2 k3 x y p.3 q.3
other_one some room k asked a b out out2 k2 k3 x y (inl p) (inr q) = absurd (q.0 p.0 p.1 p.2)
other_one some room k asked a b out out2 k2 k3 x y (inr p) (inl q) = absurd (p.0 q.0 q.1 q.2)
other_one some room k asked a b out out2 k2 k3 x y (inr p) (inr q) = plain_one some room k asked a b out out2 k2 k3 x y p.1 q.1

asked_one : SomeReading → (room : Option ℕ) (k : Keeper CoreView) (asked a b out out2 : List ℕ) (k2 k3 : Keeper CoreView) → KeeperDoes LineWrites k a out k2 → KeeperDoes LineWrites k b out2 k3 → TakesAsked room k asked a out k2 → TakesAsked room k asked b out2 k3 → IsSame a b out out2 k2 k3
asked_one some room k asked a b out out2 k2 k3 x y p q =
    let same = one_asked asked q.name p.name q.number p.number q.request p.request q.asks p.asks in
    let Q : List ℕ → ℕ → List ℕ → Type 0 = λ n i r. TakesOnce (verdict_in k.told n i) room k n i r b out2 k3 in
    let t = subst (λ r. Q p.name p.number r) same.2 (subst (λ i. Q p.name i q.request) same.1 (subst (λ n. Q n q.number q.request) same.0 q.takes)) in
    once_one some (verdict_in k.told p.name p.number) room k p.name p.number p.request a b out out2 k2 k3 x y p.takes t

outside_one : SomeReading → (room : Option ℕ) (k : Keeper CoreView) (asked a b out out2 : List ℕ) (k2 k3 : Keeper CoreView) → KeeperDoes LineWrites k a out k2 → KeeperDoes LineWrites k b out2 k3 → TakesOutside room k asked a out k2 → TakesOutside room k asked b out2 k3 → IsSame a b out out2 k2 k3
outside_one some room k asked a b out out2 k2 k3 x y (inl p) (inl q) = asked_one some room k asked a b out out2 k2 k3 x y p q
outside_one some room k asked a b out out2 k2 k3 x y (inl p) (inr q) = absurd (q.0 p.name p.number p.request p.asks)
outside_one some room k asked a b out out2 k2 k3 x y (inr p) (inl q) = absurd (p.0 q.name q.number q.request q.asks)
outside_one some room k asked a b out out2 k2 k3 x y (inr p) (inr q) = other_one some room k asked a b out out2 k2 k3 x y p.1 q.1

not_both : (b : Bool) → b ≡ true → b ≡ false → ⊥
not_both true e f = cc f
not_both false e f = cc e

line_taken : SomeReading → (room : Option ℕ) (k : Keeper CoreView) (asked a b out out2 : List ℕ) (k2 k3 : Keeper CoreView) → KeeperDoes LineWrites k a out k2 → KeeperDoes LineWrites k b out2 k3 → TakesLine room k asked a out k2 → TakesLine room k asked b out2 k3 → IsSame a b out out2 k2 k3
line_taken some room k asked a b out out2 k2 k3 x y (inl p) (inl q) = refused_one some room k a b out out2 k2 k3 x y p.1 q.1
line_taken some room k asked a b out out2 k2 k3 x y (inl p) (inr q) = absurd (not_both (is_barred_line asked) p.0 q.0)
line_taken some room k asked a b out out2 k2 k3 x y (inr p) (inl q) = absurd (not_both (is_barred_line asked) q.0 p.0)
line_taken some room k asked a b out out2 k2 k3 x y (inr p) (inr q) = outside_one some room k asked a b out out2 k2 k3 x y p.1 q.1

pub took_one : SomeReading → (m : ManagerView) (asked a b out out2 : List ℕ) (m2 m3 : ManagerView) → makes_line m a out m2 → ManagerTakesLine m asked a out m2 → makes_line m b out2 m3 → ManagerTakesLine m asked b out2 m3 → (a ≡ b) × (out ≡ out2) × (m2 ≡ m3)
took_one some m asked a b out out2 m2 m3 x p y q =
    let w = line_taken some m.room (keeper_of m) asked a b out out2 (keeper_of m2) (keeper_of m3) x y p.takes q.takes in
    (w.0, w.1, same_manager m2 m3 w.2 (p.stays ∙ sym q.stays) (p.leaves ∙ ap (room_after m.room) w.0 ∙ sym q.leaves))
