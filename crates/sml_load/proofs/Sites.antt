-- What holds of the places of a block whose text can be read.
use Rattle.std.proofs.Common.{zero, suc, List, [], ◌∷◌, ◌++◌, map, subst, arith}
use Rattle.std.specs.List.{Contains, AllByRecursion}
use Rattle.sml_tree.specs.Syntax.{CondData, both, either, neither, test, WaitedData, InstrData, send, choose, assign, move_to, terminate, wait_for, insert_in, remove_from, BlockData, done, step}
use Rattle.sml_check_faults.specs.Sites.{Site, asks, tests, sets, ends, changes, waited_site, cond_sites, instr_sites, block_sites}
use Rattle.sml_round_trip.specs.Writable.{IsWritableName, IsArg, IsWritableCond, IsWritableSend, IsWaited, IsWritableInstr, IsWritableBlock}

-- what holds of each of some things, of one that is among them
pub all_in : {X : Type 0} (P : X → Type 0) (xs : List X) (x : X) → AllByRecursion P xs → Contains xs x → P x
all_in P [] x all at = absurd (omega (at.1, arith))
all_in P (y ∷ xs) x all (zero, within, is) = subst P is all.0
all_in P (y ∷ xs) x all (suc k, within, is) = all_in P xs x all.1 (k, omega (within, arith), is)

all_both : {X : Type 0} (P : X → Type 0) (xs ys : List X) → AllByRecursion P xs → AllByRecursion P ys → AllByRecursion P (xs ++ ys)
all_both P [] ys front back = back
all_both P (x ∷ xs) ys front back = (front.0, all_both P xs ys front.1 back)

-- a place of a block whose text can be read; what a `wait` waits for is tested about no states
abbrev pub IsWritableSite : Site → Type 0
IsWritableSite (asks s) = IsWritableSend s
IsWritableSite (tests t) = IsWritableName t.name × AllByRecursion IsWritableName t.states
IsWritableSite (sets name value) = IsWritableName name × IsArg value
IsWritableSite (ends state) = IsWritableName state
IsWritableSite (changes add member set) = IsWritableName member × IsWritableName set

-- so are some places
abbrev pub AreWritableSites : List Site → Type 0
AreWritableSites sites = AllByRecursion IsWritableSite sites

cond_writable : (c : CondData) → IsWritableCond c → AreWritableSites (cond_sites c)
cond_writable (both c d) h = all_both IsWritableSite (cond_sites c) (cond_sites d) (cond_writable c h.0) (cond_writable d h.1)
cond_writable (either c d) h = all_both IsWritableSite (cond_sites c) (cond_sites d) (cond_writable c h.0) (cond_writable d h.1)
cond_writable (neither c) h = cond_writable c h
cond_writable (test t) h = ((h.0, (h.1).1), tt)

waits_writable : (ws : List WaitedData) → AllByRecursion IsWaited ws → AreWritableSites (map waited_site ws)
waits_writable [] h = tt
waits_writable (w ∷ ws) h = ((h.0, tt), waits_writable ws h.1)

mutual
  instr_writable : (i : InstrData) → IsWritableInstr i → AreWritableSites (instr_sites i)
  instr_writable (send s) h = (h, tt)
  instr_writable (choose c first second) h =
      all_both IsWritableSite (cond_sites c) (block_sites first ++ block_sites second) (cond_writable c h.0)
      (all_both IsWritableSite (block_sites first) (block_sites second) (block_writable first h.1) (block_writable second h.2))
  instr_writable (assign name value) h = (h, tt)
  instr_writable (move_to state) h = (h, tt)
  instr_writable (terminate state) h = (h, tt)
  instr_writable (wait_for waited) h = waits_writable waited h.1
  instr_writable (insert_in member set) h = (h, tt)
  instr_writable (remove_from member set) h = (h, tt)

  pub block_writable : (b : BlockData) → IsWritableBlock b → AreWritableSites (block_sites b)
  block_writable done h = tt
  block_writable (step i rest) h = all_both IsWritableSite (instr_sites i) (block_sites rest) (instr_writable i h.0) (block_writable rest h.1)
