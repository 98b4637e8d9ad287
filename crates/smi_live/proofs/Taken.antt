-- What becomes of a line from outside, and of a line of a log.
use Rattle.std.proofs.Common.{◌≡◌, ◌∙◌, sym, ap, refl, subst, ◌<◌, ◌^◌, ◌++◌, [], ℕ, true, List, Option, Some, None, Result, Ok, Err, inl, inr, append-nil}
use Rattle.std.specs.List.{list_all}
use Rattle.sml_text.specs.Bytes.{no_line_feed}
use Rattle.smi_core.specs.Machines.{CoreView}
use Rattle.smi_core.specs.Output.{LineWrites}
use Rattle.smi_world.specs.declared.step.Step.{Step}
use Rattle.smi_lines.specs.declared.line.LineError.{LineError}
use Rattle.smi_lines.specs.declared.line.LineError.TheVariants as line
use Rattle.smi_lines.specs.Line.{LineReads}
use Rattle.smi_live_once.specs.declared.table.Verdict.TheVariants as once
use Rattle.smi_live_once.specs.Forms.{IsMarked, IsUnmarked, is_once_name, marked_text, told_text}
use Rattle.smi_live_once.specs.Making.{IsBeside, Keeper, KeeperDoes, KeeperWrites}
use Rattle.smi_live_once.specs.Tables.{OnceTold, verdict_in, with_last_told}
use Rattle.smi_live.specs.Keeping.{IsNoRequest, IsNoStep}
use Rattle.smi_live.specs.Limiting.{IsKept, IsUnkept, line_for_bad, logged, unkept_text}
use Rattle.smi_live.specs.Managing.{StandsFor, StandsForOnce, TakesNew, TakesPlain}
use Rattle.smi_live.proofs.Kept.{kept_line, kept_unmarked, no_request_stands, one_kept, one_line}
use Rattle.smi_live.proofs.Unmarked.{bad_unmarked}

-- a line without a mark was made
pub made_plain : (k k2 : Keeper CoreView) (line kept out : List ℕ) → IsUnmarked line → list_all no_line_feed line ≡ true → LineWrites k.core line out k2.core → k2.told ≡ k.told → kept ≡ logged line → KeeperDoes LineWrites k kept out k2
made_plain k k2 line kept out unmarked one writes told e = inl record {
  line = line;
  one = one;
  keeps = e;
  plain = out;
  beside = [];
  makes = (writes, inr (unmarked, told));
  tells = inr (unmarked, refl);
  both = sym (append-nil out);
}

-- a line was refused
pub made_bad : (k : Keeper CoreView) (kept out : List ℕ) → LineWrites k.core line_for_bad out k.core → kept ≡ logged line_for_bad → KeeperDoes LineWrites k kept out k
made_bad k kept out writes e = made_plain k k line_for_bad kept out bad_unmarked refl writes refl e

-- a request that is new was made, and its answer told
pub made_new : (k k2 : Keeper CoreView) (line name : List ℕ) (number : ℕ) (one kept out : List ℕ) → IsMarked line name number → verdict_in k.told name number ≡ once.New → list_all no_line_feed line ≡ true → LineWrites k.core line one k2.core
    → k2.told ≡ with_last_told k.told (record { name = name; number = number; answer = one }) → kept ≡ logged line → out ≡ one ++ told_text name number one → KeeperDoes LineWrites k kept out k2
made_new k k2 line name number one kept out mark new free writes told e both = inl record {
  line = line;
  one = free;
  keeps = e;
  plain = one;
  beside = told_text name number one;
  makes = (writes, inl (name, number, mark, new, told));
  tells = inl (name, number, mark, refl);
  both = both;
}

-- an answer was told alone
pub told_only : (k : Keeper CoreView) (name : List ℕ) (number : ℕ) (answer kept out : List ℕ) → kept ≡ [] → out ≡ told_text name number answer → KeeperDoes LineWrites k kept out k
told_only k name number answer kept out e t = inr record { keeps = e; stays = refl; tells = inr (inr (name, number, answer, t)) }

-- nothing was made, and this was told
pub told_beside : (k : Keeper CoreView) (kept out : List ℕ) → kept ≡ [] → IsBeside out → KeeperDoes LineWrites k kept out k
told_beside k kept out e t = inr record { keeps = e; stays = refl; tells = t }

pub unkept_beside : (r : Result (Option Step) LineError) (out : List ℕ) → out ≡ unkept_text r → IsBeside out
unkept_beside (Ok None) out e = inl e
unkept_beside (Ok (Some s)) out e = inr (inl e)
unkept_beside (Err x) out e = inr (inl e)

-- a line of a log was made again: one without a mark, or one whose number is new
pub again_plain : (k k2 : Keeper CoreView) (line out : List ℕ) → IsUnmarked line → LineWrites k.core line out k2.core → k2.told ≡ k.told → KeeperWrites LineWrites k line out k2
again_plain k k2 line out unmarked writes told = (writes, inr (unmarked, told))

pub again_marked : (k k2 : Keeper CoreView) (line out name : List ℕ) (number : ℕ) → IsMarked line name number → verdict_in k.told name number ≡ once.New → LineWrites k.core line out k2.core → k2.told ≡ with_last_told k.told (record { name = name; number = number; answer = out }) → KeeperWrites LineWrites k line out k2
again_marked k k2 line out name number mark new writes told = (writes, inl (name, number, mark, new, told))

-- ---- from what the parts of a function say

same_kept : (line kept0 kept : List ℕ) → kept0 ≡ line → kept ≡ logged kept0 → kept ≡ logged line
same_kept line kept0 kept e f = f ∙ ap logged e

-- a line was refused, and its line feed added
pub refused_does : (k : Keeper CoreView) (kept0 text0 kept text : List ℕ) → LineWrites k.core kept0 text0 k.core → kept0 ≡ line_for_bad → kept ≡ logged kept0 → text ≡ text0 → KeeperDoes LineWrites k kept text k
refused_does k kept0 text0 kept text writes e f t =
    made_bad k kept text (subst (λ o. LineWrites k.core line_for_bad o k.core) (sym t) (subst (λ l. LineWrites k.core l text0 k.core) e writes)) (same_kept line_for_bad kept0 kept e f)

-- a line that was read was taken, and its line feed added
pub plain_does : (k k2 : Keeper CoreView) (asked : List ℕ) (r : Result (Option Step) LineError) (kept0 text0 kept text : List ℕ) → IsUnmarked asked → LineReads asked r → LineWrites k.core kept0 text0 k2.core → StandsFor r asked kept0 → k2.told ≡ k.told
    → kept ≡ logged kept0 → text ≡ text0 → KeeperDoes LineWrites k kept text k2
plain_does k k2 asked r kept0 text0 kept text free reads writes stands told f t =
    made_plain k k2 kept0 kept text (kept_unmarked r asked kept0 free stands) (kept_line r asked kept0 reads stands) (subst (λ o. LineWrites k.core kept0 o k2.core) (sym t) writes) told f

-- one of the manager's own steps was made, and its line feed added
pub own_does : (k k2 : Keeper CoreView) (s : Option Step) (kept0 text0 kept text : List ℕ) → IsUnmarked kept0 → LineReads kept0 (Ok s) → LineWrites k.core kept0 text0 k2.core → k2.told ≡ k.told → kept ≡ logged kept0 → text ≡ text0 → KeeperDoes LineWrites k kept text k2
own_does k k2 s kept0 text0 kept text free reads writes told f t =
    made_plain k k2 kept0 kept text free (one_line kept0 s reads) (subst (λ o. LineWrites k.core kept0 o k2.core) (sym t) writes) told f

told_by : (k mid k2 : Keeper CoreView) (x : OnceTold) → mid.told ≡ k.told → k2.told ≡ with_last_told mid.told x → k2.told ≡ with_last_told k.told x
told_by k mid k2 x e f = f ∙ ap (λ ts. with_last_told ts x) e

-- a request that is new was made, its answer kept and told, and its line feed added
pub new_does : (k mid k2 : Keeper CoreView) (line name : List ℕ) (number : ℕ) (s : Option Step) (kept0 text0 kept text : List ℕ) → IsMarked line name number → verdict_in k.told name number ≡ once.New → LineReads line (Ok s) → LineWrites k.core kept0 text0 mid.core
    → kept0 ≡ line → mid.told ≡ k.told → k2.core ≡ mid.core → k2.told ≡ with_last_told mid.told (record { name = name; number = number; answer = text0 }) → kept ≡ logged kept0 → text ≡ text0 ++ told_text name number text0 → KeeperDoes LineWrites k kept text k2
new_does k mid k2 line name number s kept0 text0 kept text mark new reads writes e told core more f t =
    made_new k k2 line name number text0 kept text mark new (one_line line s reads) (subst (λ c. LineWrites k.core line text0 c) (sym core) (subst (λ l. LineWrites k.core l text0 mid.core) e writes))
    (told_by k mid k2 _ told more) (same_kept line kept0 kept e f) t

-- a request of a log was made again, and its answer kept
pub new_again : (k mid k2 : Keeper CoreView) (line name : List ℕ) (number : ℕ) (kept0 text : List ℕ) → IsMarked line name number → verdict_in k.told name number ≡ once.New → LineWrites k.core kept0 text mid.core
    → kept0 ≡ line → mid.told ≡ k.told → k2.core ≡ mid.core → k2.told ≡ with_last_told mid.told (record { name = name; number = number; answer = text }) → KeeperWrites LineWrites k line text k2
new_again k mid k2 line name number kept0 text mark new writes e told core more =
    again_marked k k2 line text name number mark new (subst (λ c. LineWrites k.core line text c) (sym core) (subst (λ l. LineWrites k.core l text mid.core) e writes)) (told_by k mid k2 _ told more)

none_stands : (r : Result (Option Step) LineError) (marked : List ℕ) → (r ≡ Err line.Memory → ⊥) → IsNoStep r → StandsForOnce r marked line_for_bad
none_stands (Err line.BadLine) marked read not = refl
none_stands (Err line.Memory) marked read not = absurd (read refl)
none_stands (Ok None) marked read not = refl
none_stands (Ok (Some s)) marked read not = absurd (not s refl)

-- what is no step is refused
pub no_step_new : (r : Result (Option Step) LineError) (marked kept : List ℕ) → (r ≡ Err line.Memory → ⊥) → IsNoStep r → LineReads marked r → kept ≡ logged line_for_bad → TakesNew marked kept
no_step_new r marked kept read not reads e = record {
  line = line_for_bad;
  taken = record { read = r; reads = reads; stands = none_stands r marked read not };
  keeps = e;
}

-- what is no request is refused
pub no_request_new : (s : Step) (marked kept : List ℕ) → LineReads marked (Ok (Some s)) → IsNoRequest s → kept ≡ logged line_for_bad → TakesNew marked kept
no_request_new s marked kept reads not e = record {
  line = line_for_bad;
  taken = record { read = Ok (Some s); reads = reads; stands = no_request_stands s marked line_for_bad not refl };
  keeps = e;
}

-- a line with its mark is marked
pub is_marked : (line request name : List ℕ) (number : ℕ) → is_once_name name ≡ true → number < 2 ^ 64 → line ≡ marked_text request name number → IsMarked line name number
is_marked line request name number named small e = record { request = request; named = named; small = small; text = e }

-- what was read is kept as its line
pub kept_limits : (room : Option ℕ) (m : CoreView) (r : Result (Option Step) LineError) (asked line l kept out : List ℕ) → LineReads asked r → StandsFor r asked line → StandsFor r asked l → kept ≡ logged line → IsKept room m r l → TakesPlain room m asked kept out
kept_limits room m r asked line l kept out reads stands is e keeps = record {
  line = line;
  taken = record { read = r; reads = reads; stands = stands };
  limits = inl (subst (IsKept room m r) (one_kept r asked l line is stands) keeps, e);
}

-- what was read is not kept
pub unkept_limits : (room : Option ℕ) (m : CoreView) (r : Result (Option Step) LineError) (asked l kept out : List ℕ) → LineReads asked r → StandsFor r asked l → IsUnkept room m r l → kept ≡ [] → out ≡ unkept_text r → TakesPlain room m asked kept out
unkept_limits room m r asked l kept out reads stands not e t = record {
  line = l;
  taken = record { read = r; reads = reads; stands = stands };
  limits = inr (not, e, t);
}
