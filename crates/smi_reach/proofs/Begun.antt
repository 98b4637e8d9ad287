-- Blocks that are begun, and the places that are reached in them.
use Rattle.std.proofs.Common.{◌≡◌, ◌<◌, ◌≤◌, ◌≢◌, ◌+◌, ◌∷◌, ◌++◌, ℕ, zero, suc, Bool, true, false, List, [], All, Contains, length, get_or, set, take, refl, ap, sym, ◌∙◌, subst, arith, inl, inr, ⊎_elim}
use Rattle.std.specs.Prelude.{◌⊎◌, ◌↔◌}
use Rattle.std.proofs.lemmas.Bool.{cases_eq, true≢false}
use Rattle.std.proofs.lemmas.Grind.{get_or-set_at}
use Rattle.std.proofs.lemmas.List.{get_or-set_other, get_or_past, length-set}
use Rattle.std.proofs.lemmas.List.Elements.{Contains-append_left, Contains-push, Contains-push_cases}
use Rattle.sml_domain.specs.Program.{Instruction, Assigns, Sends, SendsToNone, Chooses, Moves, Terminates, Waits, Changes, Formula}
use Rattle.sml_domain.specs.Domain.{Domain, Class, Action, State as Stated}
use Rattle.sml_domain.specs.Places.{NamesBefore}
use Rattle.smi_reach.specs.declared.places.Reach.{Reach}
use Rattle.smi_reach.specs.Places.{is_instr_passed, IsInstrAt, IsPlaceReached, first, next, branch, other}
use Rattle.smi_reach.specs.Reach.{IsPassedAt, IsPassedCount, ArePassedCounts, IsBlockBegun, BeginsBlocks, IsBlockAmong, IsBlockWithin, IsBlockOfClasses, IsActionBlock, IsBranchOf, IsBranchFrom, ReachesPlace, ComesTo, IsReachOf, IsReachUnderWay}
use Rattle.smi_meaning.proofs.Picked.{same_some}
use Rattle.smi_reach.proofs.Lists.{in_none, order_of}

-- one block is begun
pub begins_one : (begun : List Bool) (p : ℕ) → p < length begun → BeginsBlocks (λ b. b ≡ p) begun (set begun p true)
begins_one begun p lt = record {
  keeps = λ b h. ⊎_elim (λ e. get_or-set_at begun p b true false e lt) (λ n. get_or-set_other begun p b true false n ∙ h) (cases_eq b p);
  adds = λ b e. get_or-set_at begun p b true false e lt;
  only = λ b h. ⊎_elim inr (λ n. inl (sym (get_or-set_other begun p b true false n) ∙ h)) (cases_eq b p);
  count = length-set begun p true;
}

-- none is begun
pub begins_nothing : (Holds : ℕ → Type 0) (begun : List Bool) → ((b : ℕ) → Holds b → ⊥) → BeginsBlocks Holds begun begun
begins_nothing Holds begun not = record {
  keeps = λ b h. h;
  adds = λ b h. absurd (not b h);
  only = λ b h. inl h;
  count = refl;
}

-- some, and then others
pub begins_both : (P Q R : ℕ → Type 0) (old begun new : List Bool) → BeginsBlocks P old begun → BeginsBlocks Q begun new → ((b : ℕ) → P b ⊎ Q b → R b) → ((b : ℕ) → R b → P b ⊎ Q b) → BeginsBlocks R old new
begins_both P Q R old begun new p q there back = record {
  keeps = λ b h. q.keeps b (p.keeps b h);
  adds = λ b h. ⊎_elim (λ g. q.keeps b (p.adds b g)) (λ g. q.adds b g) (back b h);
  only = λ b h. ⊎_elim (λ g. ⊎_elim inl (λ f. inr (there b (inl f))) (p.only b g)) (λ g. inr (there b (inr g))) (q.only b h);
  count = q.count ∙ p.count;
}

-- the same blocks, said otherwise
pub begins_as : (P Q : ℕ → Type 0) (old new : List Bool) → ((b : ℕ) → P b → Q b) → ((b : ℕ) → Q b → P b) → BeginsBlocks P old new → BeginsBlocks Q old new
begins_as P Q old new there back p = record {
  keeps = p.keeps;
  adds = λ b h. p.adds b (back b h);
  only = λ b h. ⊎_elim inl (λ g. inr (there b g)) (p.only b h);
  count = p.count;
}

-- of rows, each of which begins its blocks, one more
pub begins_more : {X : Type 0} (P : X → ℕ → Type 0) (rows : List X) (x : X) (old begun new : List Bool) → BeginsBlocks (λ b. (y : X) × Contains rows y × P y b) old begun → BeginsBlocks (P x) begun new
    → BeginsBlocks (λ b. (y : X) × Contains (rows ++ x ∷ []) y × P y b) old new
begins_more P rows x old begun new p q = begins_both (λ b. (y : _) × Contains rows y × P y b) (P x) (λ b. (y : _) × Contains (rows ++ x ∷ []) y × P y b) old begun new p q
    (λ b s. ⊎_elim (λ h. (h.0, Contains-append_left rows (x ∷ []) h.0 h.1, h.2)) (λ h. (x, Contains-push rows x, h)) s)
    (λ b h. ⊎_elim (λ g. inl (h.0, g, h.2)) (λ e. inr (subst (λ y. P y b) (sym e) h.2)) (Contains-push_cases rows x h.0 h.1))

-- no rows
pub begins_none : {X : Type 0} (P : X → ℕ → Type 0) (begun : List Bool) → BeginsBlocks (λ b. (y : X) × Contains [] y × P y b) begun begun
begins_none P begun = begins_nothing (λ b. (y : _) × Contains [] y × P y b) begun (λ b h. in_none h.0 h.1)

-- a block that is begun is there
pub begun_within : (begun : List Bool) (b : ℕ) → IsBlockBegun begun b → b < length begun
begun_within begun b h = ⊎_elim (λ e. absurd (past (omega (arith, e)))) (λ n. ⊎_elim (λ lt. lt) (λ gt. absurd (past (omega (arith, gt)))) (order_of b (length begun) n)) (cases_eq b (length begun))
  where
    past : length begun ≤ b → ⊥
    past le = true≢false (sym h ∙ get_or_past begun b false le)

-- a block is a branch of an instruction of another up to a place, and before a second one
abbrev pub IsBranchBefore : Domain → ℕ → ℕ → ℕ → ℕ → Type 0
IsBranchBefore d block n place b = (x : IsBranchFrom d block n b) × (x.place < place)

-- one more instruction is looked at
pub branches_more : (d : Domain) (block n place : ℕ) (instr : Instruction) (old begun new : List Bool) → place ≤ n → IsInstrAt d block place instr → BeginsBlocks (IsBranchBefore d block n place) old begun → BeginsBlocks (IsBranchOf instr) begun new
    → BeginsBlocks (IsBranchBefore d block n (place + 1)) old new
branches_more d block n place instr old begun new le at p q = begins_both (IsBranchBefore d block n place) (IsBranchOf instr) (IsBranchBefore d block n (place + 1)) old begun new p q
    (λ b s. ⊎_elim (λ h. let lt = h.1 in (h.0, omega (arith, lt))) (λ h. (record { place = place; within = le; instr = instr; there = at; branch = h }, omega arith)) s)
    (λ b h. ⊎_elim (λ e. inr (subst (λ i. IsBranchOf i b) (same_some h.0.instr instr (sym (subst (λ i. IsInstrAt d block i h.0.instr) e h.0.there) ∙ at)) h.0.branch)) (λ o. let lt = h.1 in inl (h.0, omega (arith, lt, o))) (cases_eq h.0.place place))

-- the branches of an instruction are blocks before
branch_before : (n b : ℕ) (instr : Instruction) → NamesBefore n instr → IsBranchOf instr b → b < n
branch_before n b (Chooses f p q) names h = ⊎_elim (λ e. subst (λ k. k < n) (sym e) names.0) (λ e. subst (λ k. k < n) (sym e) names.1) h
branch_before n b (Assigns p v) names h = absurd h
branch_before n b (Sends t a args) names h = absurd h
branch_before n b (SendsToNone set) names h = absurd h
branch_before n b (Moves s) names h = absurd h
branch_before n b (Terminates s) names h = absurd h
branch_before n b (Waits names1) names h = absurd h
branch_before n b (Changes add member set) names h = absurd h

-- an action that comes to an instruction comes to the beginning of its branches
to_branch : (d : Domain) (root b i c : ℕ) (instr : Instruction) → IsPlaceReached d root b i → IsInstrAt d b i instr → IsBranchOf instr c → IsPlaceReached d root c 0
to_branch d root b i c (Chooses f p q) was at h = ⊎_elim (λ e. subst (λ k. IsPlaceReached d root k 0) (sym e) (branch d root b i f p q was at)) (λ e. subst (λ k. IsPlaceReached d root k 0) (sym e) (other d root b i f p q was at)) h
to_branch d root b i c (Assigns p v) was at h = absurd h
to_branch d root b i c (Sends t a args) was at h = absurd h
to_branch d root b i c (SendsToNone set) was at h = absurd h
to_branch d root b i c (Moves s) was at h = absurd h
to_branch d root b i c (Terminates s) was at h = absurd h
to_branch d root b i c (Waits names) was at h = absurd h
to_branch d root b i c (Changes add member set) was at h = absurd h

-- an action that begins a block comes to all places up to the first instruction that is not passed
pub comes_on : (d : Domain) (root b n : ℕ) → IsPassedCount d b n → IsPlaceReached d root b 0 → (i : ℕ) → i ≤ n → IsPlaceReached d root b i
comes_on d root b n count begins zero le = begins
comes_on d root b n count begins (suc i) le =
    let p = count.before i (omega (arith, le)) in
    let more : i + 1 ≡ suc i = omega arith in
    subst (IsPlaceReached d root b) more (next d root b i p.instr (comes_on d root b n count begins i (omega (arith, le))) p.there p.passed)

-- and to the branches of the instructions there
pub comes_to_branches : (d : Domain) (b n c : ℕ) → IsPassedCount d b n → ComesTo d b 0 → IsBranchFrom d b n c → ComesTo d c 0
comes_to_branches d b n c count to from = record {
  root = to.root;
  action = to.action;
  reached = to_branch d to.root b from.place c from.instr (comes_on d to.root b n count to.reached from.place from.within) from.there from.branch;
}

-- and to no others
pub comes_only : (d : Domain) (r : Reach) (root b i : ℕ) → ArePassedCounts d r.passed.items → length r.passed.items ≡ length d.blocks → IsReachUnderWay d r.passed.items r.begun.items 0 → IsActionBlock d root → IsPlaceReached d root b i → ReachesPlace r b i
comes_only d r root b i counts long u action (first _ _) = record { begun = u.roots root action; within = omega arith }
comes_only d r root b _ counts long u action (next _ _ _ i instr was at passed) =
    let h = comes_only d r root b i counts long u action was in
    let lt = begun_within r.begun.items b h.begun in
    let size = u.count in
    let count = counts b (omega (arith, lt, size, long)) in
    let le = h.within in
    record { begun = h.begun; within = ⊎_elim (λ e. absurd (count.here (subst (IsPassedAt d b) e (record { instr = instr; there = at; passed = passed })))) (λ n. omega (arith, le, n)) (cases_eq i (get_or r.passed.items b 0)) }
comes_only d r root _ _ counts long u action (branch _ _ b i f p q was at) =
    let h = comes_only d r root b i counts long u action was in
    let lt = begun_within r.begun.items b h.begun in
    let size = u.count in
    record { begun = u.closed b p (omega arith) (omega (arith, lt, size)) h.begun (record { place = i; within = h.within; instr = Chooses f p q; there = at; branch = inl refl }); within = omega arith }
comes_only d r root _ _ counts long u action (other _ _ b i f p q was at) =
    let h = comes_only d r root b i counts long u action was in
    let lt = begun_within r.begun.items b h.begun in
    let size = u.count in
    record { begun = u.closed b q (omega arith) (omega (arith, lt, size)) h.begun (record { place = i; within = h.within; instr = Chooses f p q; there = at; branch = inr refl }); within = omega arith }

-- when all blocks are looked at, exactly the places are known to which actions come
pub all_reached : (d : Domain) (r : Reach) → ArePassedCounts d r.passed.items → length r.passed.items ≡ length d.blocks → IsReachUnderWay d r.passed.items r.begun.items 0 → IsReachOf d r
all_reached d r counts long u = record {
  begun = u.count;
  passed = long;
  places = λ b i. (there b i, λ c. comes_only d r c.root b i counts long u c.action c.reached);
}
  where
    there : (b i : ℕ) → ReachesPlace r b i → ComesTo d b i
    there b i h =
        let c = u.sound b h.begun in
        let lt = begun_within r.begun.items b h.begun in
        let size = u.count in
        record { root = c.root; action = c.action; reached = comes_on d c.root b (get_or r.passed.items b 0) (counts b (omega (arith, lt, size, long))) c.reached i h.within }

-- before any block is looked at, those of the actions alone are begun
pub roots_begun : (d : Domain) (passed : List ℕ) (old begun : List Bool) → length old ≡ length d.blocks → ((b : ℕ) → IsBlockBegun old b → ⊥) → BeginsBlocks (IsActionBlock d) old begun → IsReachUnderWay d passed begun (length d.blocks)
roots_begun d passed old begun long none k = record {
  count = k.count ∙ long;
  roots = k.adds;
  sound = λ b h. ⊎_elim (λ g. absurd (none b g)) (λ g. record { root = b; action = g; reached = first d b }) (k.only b h);
  closed = λ b c le lt. absurd (omega (arith, le, lt));
}

-- one more block is looked at, which is begun
pub one_more_looked : (d : Domain) (passed : List ℕ) (begun new : List Bool) (n : ℕ) → ArePassedCounts d passed → length passed ≡ length d.blocks → n < length d.blocks
    → ((instr : Instruction) (i : ℕ) → IsInstrAt d n i instr → NamesBefore n instr) → IsReachUnderWay d passed begun (n + 1) → IsBlockBegun begun n → BeginsBlocks (IsBranchFrom d n (get_or passed n 0)) begun new → IsReachUnderWay d passed new n
one_more_looked d passed begun new n counts long within names u here k = record {
  count = k.count ∙ u.count;
  roots = λ b h. k.keeps b (u.roots b h);
  sound = λ b h. ⊎_elim (u.sound b) (λ f. comes_to_branches d n (get_or passed n 0) b (counts n (omega (arith, within, long))) (u.sound n here) f) (k.only b h);
  closed = λ b c le lt h from. ⊎_elim (λ e. k.adds c (subst (λ m. IsBranchFrom d m (get_or passed m 0) c) e from))
      (λ o. ⊎_elim (λ g. k.keeps c (u.closed b c (omega (arith, le, o)) lt g from)) (λ f. let before = branch_before n b f.instr (names f.instr f.place f.there) f.branch in absurd (omega (arith, le, before))) (k.only b h))
      (cases_eq b n);
}

-- one more block is looked at, which is not
pub one_more_passed_over : (d : Domain) (passed : List ℕ) (begun : List Bool) (n : ℕ) → IsReachUnderWay d passed begun (n + 1) → get_or begun n false ≡ false → IsReachUnderWay d passed begun n
one_more_passed_over d passed begun n u not = record {
  count = u.count;
  roots = u.roots;
  sound = u.sound;
  closed = λ b c le lt h from. ⊎_elim (λ e. absurd (true≢false (sym h ∙ ap (λ k. get_or begun k false) e ∙ not))) (λ o. u.closed b c (omega (arith, le, o)) lt h from) (cases_eq b n);
}

-- blocks before one are before those behind it
pub names_below : (m n : ℕ) (instr : Instruction) → m ≤ n → NamesBefore m instr → NamesBefore n instr
names_below m n (Chooses f p q) le h = let x = h.0 in let y = h.1 in (omega (arith, le, x), omega (arith, le, y))
names_below m n (Assigns p v) le h = h
names_below m n (Sends t a args) le h = h
names_below m n (SendsToNone set) le h = h
names_below m n (Moves s) le h = h
names_below m n (Terminates s) le h = h
names_below m n (Waits names) le h = h
names_below m n (Changes add member set) le h = h
