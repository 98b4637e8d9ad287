-- Journals of the first format, in which no set changes.
use Rattle.std.proofs.Common.{◌≡◌, List, [], ◌∷◌, ◌++◌, refl, sym, ap, ◌∙◌, append-nil, append_assoc}
use Rattle.sml_domain.specs.Domain.{Domain}
use Rattle.smi_journal_entries.specs.declared.entry.Entry.{Entry}
use Rattle.smi_journal_entries.specs.declared.entry.Entry.TheVariants.{Start, Post, Wait, Seen, End, Kill, Insert, Remove, NoMember}
use Rattle.smi_journal_entries.specs.declared.journal.Format.TheVariants.{One}
use Rattle.smi_journal_entries.specs.Sets.{sets_after, sets_next, unchanged}
use Rattle.smi_journal_entries.proofs.OneMore.{sets_more}
use Rattle.smi_meaning.specs.Legal.{IsLegal, IsLegalFrom, MayFollow}

-- an entry that may follow changes no set
none_changes : (d : Domain) (J : List Entry) (e : Entry) → MayFollow One d J e → sets_next d (sets_after d J) e ≡ sets_after d J
none_changes d J (Start x s n a args) h = refl
none_changes d J (Post x t v a args) h = refl
none_changes d J (Wait x) h = refl
none_changes d J (Seen x rs) h = refl
none_changes d J (End x r) h = refl
none_changes d J (Kill x c) h = refl
none_changes d J (Insert x o set) h = absurd h
none_changes d J (Remove x o set) h = absurd h
none_changes d J (NoMember x set) h = absurd h

stays_from : (d : Domain) (past J : List Entry) → sets_after d past ≡ unchanged d → IsLegalFrom One d past J → sets_after d (past ++ J) ≡ unchanged d
stays_from d past [] same h = ap (sets_after d) (append-nil past) ∙ same
stays_from d past (e ∷ es) same h =
    ap (sets_after d) (sym (append_assoc past (e ∷ []) es))
    ∙ stays_from d (past ++ e ∷ []) es (sets_more d past e ∙ none_changes d past e h.0.1 ∙ same) h.1

pub members_stay : (d : Domain) (J : List Entry) → IsLegal One d J → sets_after d J ≡ unchanged d
members_stay d J h = stays_from d [] J refl h
