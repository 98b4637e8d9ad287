-- What is kept of a line from outside is one line, and has no mark unless the manager made it.
use Rattle.std.proofs.Common.{◌≡◌, ◌∙◌, sym, refl, subst, ◌&&◌, ℕ, Bool, true, false, List, length, nat_le, Option, Some, None, Result, Ok, Err}
use Rattle.std.specs.List.{list_all}
use Rattle.sml_text.specs.Bytes.{no_line_feed, is_ascii}
use Rattle.smi_world.specs.declared.step.Step.{Step}
use Rattle.smi_world.specs.declared.step.Step.TheVariants as step
use Rattle.smi_lines.specs.declared.line.LineError.{LineError}
use Rattle.smi_lines.specs.declared.line.LineError.TheVariants as line
use Rattle.smi_lines.specs.declared.line.TheConstants.{LONGEST_LINE}
use Rattle.smi_lines.specs.Line.{LineReads, LineAnswers, is_line}
use Rattle.smi_live_once.specs.Forms.{IsUnmarked}
use Rattle.smi_live.specs.Keeping.{IsNoRequest, IsSomeRequest}
use Rattle.smi_live.specs.Limiting.{line_for_bad}
use Rattle.smi_live.specs.Managing.{StandsFor, StandsForOnce}
use Rattle.smi_live.proofs.Unmarked.{bad_unmarked}

and_right : (a b : Bool) → a && b ≡ true → b ≡ true
and_right true b h = h
and_right false b h = absurd (cc h)

read_at : (b : Bool) (text : List ℕ) (s : Option Step) → LineAnswers b text (Ok s) → b ≡ true
read_at true text s h = refl
read_at false text s h = absurd (cc h)

-- a line that is read has no line feed
pub one_line : (text : List ℕ) (s : Option Step) → LineReads text (Ok s) → list_all no_line_feed text ≡ true
one_line text s h = and_right (list_all is_ascii text) (list_all no_line_feed text) (and_right (nat_le (length text) LONGEST_LINE) _ (read_at (is_line text) text s h))

-- what stands for a line from outside is the line for bad ones, or the line itself
stands_so : (P : List ℕ → Type 0) (r : Result (Option Step) LineError) (asked kept : List ℕ) → P line_for_bad → ((s : Option Step) → r ≡ Ok s → P asked) → StandsFor r asked kept → P kept
stands_so P (Err line.BadLine) asked kept bad good s = subst P (sym s) bad
stands_so P (Err line.Memory) asked kept bad good s = absurd s
stands_so P (Ok None) asked kept bad good s = subst P (sym s) (good None refl)
stands_so P (Ok (Some (step.Start x))) asked kept bad good s = subst P (sym s) bad
stands_so P (Ok (Some (step.Go x))) asked kept bad good s = subst P (sym s) bad
stands_so P (Ok (Some (step.Request k x y args))) asked kept bad good s = subst P (sym s) (good _ refl)
stands_so P (Ok (Some (step.Answer x y))) asked kept bad good s = subst P (sym s) (good _ refl)
stands_so P (Ok (Some (step.Fault x))) asked kept bad good s = subst P (sym s) (good _ refl)
stands_so P (Ok (Some (step.Kill x k))) asked kept bad good s = subst P (sym s) (good _ refl)

pub kept_line : (r : Result (Option Step) LineError) (asked kept : List ℕ) → LineReads asked r → StandsFor r asked kept → list_all no_line_feed kept ≡ true
kept_line r asked kept h s = stands_so (λ l. list_all no_line_feed l ≡ true) r asked kept refl (λ x e. one_line asked x (subst (LineReads asked) e h)) s

pub kept_unmarked : (r : Result (Option Step) LineError) (asked kept : List ℕ) → IsUnmarked asked → StandsFor r asked kept → IsUnmarked kept
kept_unmarked r asked kept free s = stands_so IsUnmarked r asked kept bad_unmarked (λ x e. free) s

-- a step that is no request stands for nothing that is made once
pub no_request_stands : (s : Step) (asked kept : List ℕ) → IsNoRequest s → kept ≡ line_for_bad → StandsForOnce (Ok (Some s)) asked kept
no_request_stands (step.Request k x y args) asked kept not e = absurd (not k x y args refl)
no_request_stands (step.Start x) asked kept not e = e
no_request_stands (step.Go x) asked kept not e = e
no_request_stands (step.Answer x y) asked kept not e = e
no_request_stands (step.Fault x) asked kept not e = e
no_request_stands (step.Kill x k) asked kept not e = e

-- a request stands for itself
pub request_stands : (s : Step) (asked kept : List ℕ) → IsSomeRequest s → kept ≡ asked → StandsForOnce (Ok (Some s)) asked kept
request_stands s asked kept is e = subst (λ t. StandsForOnce (Ok (Some t)) asked kept) (sym is.4) e

-- one line stands for a line from outside
pub one_kept : (r : Result (Option Step) LineError) (asked l k : List ℕ) → StandsFor r asked l → StandsFor r asked k → l ≡ k
one_kept (Err line.BadLine) asked l k p q = p ∙ sym q
one_kept (Err line.Memory) asked l k p q = absurd p
one_kept (Ok None) asked l k p q = p ∙ sym q
one_kept (Ok (Some (step.Start x))) asked l k p q = p ∙ sym q
one_kept (Ok (Some (step.Go x))) asked l k p q = p ∙ sym q
one_kept (Ok (Some (step.Request i x y args))) asked l k p q = p ∙ sym q
one_kept (Ok (Some (step.Answer x y))) asked l k p q = p ∙ sym q
one_kept (Ok (Some (step.Fault x))) asked l k p q = p ∙ sym q
one_kept (Ok (Some (step.Kill x i))) asked l k p q = p ∙ sym q
