-- The text of a page.
use Rattle.std.specs.Prelude.{ℕ, List, ◌++◌}
use Rattle.show_page.specs.declared.page.Page.{Page}
use Rattle.show_page.specs.Escapes.{escaped}
use Rattle.show_page.specs.declared.head.TheConstants.{HEAD}
use Rattle.show_page.specs.declared.body.TheConstants.{BEHIND_DOMAIN, BEHIND_RUN, BEHIND_RULING, BEHIND_REASON, BEHIND_LIST}
use Rattle.show_page.specs.declared.script.TheConstants.{BEHIND_JOURNAL}

-- the names of the files, what the judge says and why, the list of the domain, and the journal, between constants
abbrev pub page_text : Page → List ℕ
page_text page = HEAD.now
    ++ (escaped page.domain.now ++ (BEHIND_DOMAIN.now
    ++ (escaped page.run.now ++ (BEHIND_RUN.now
    ++ (escaped page.ruling.now ++ (BEHIND_RULING.now
    ++ (escaped page.reason.now ++ (BEHIND_REASON.now
    ++ (escaped page.list.now ++ (BEHIND_LIST.now
    ++ (escaped page.journal.now ++ BEHIND_JOURNAL.now)))))))))))
