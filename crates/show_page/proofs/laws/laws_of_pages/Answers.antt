use Rattle.show_page.proofs.Shows as shows
use Rattle.show_page.proofs.laws.laws_of_pages.Goals as goal

pub returns-clause-shown_back : goal.returns-clause-shown_back
returns-clause-shown_back c bytes = shows.shown_back bytes

pub returns-clause-without_marks : goal.returns-clause-without_marks
returns-clause-without_marks c bytes = shows.without_marks bytes
