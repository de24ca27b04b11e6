use Rattle.gnb_base.proofs.NextLemmas.{kept_line_meets, last_meets, no_memory_last, refused_meets, found_line, found_none, read_from, read_end}
use Rattle.gnb_base.proofs.lines.LineReader.turn.Goals as goal

pub returns-in-Ok-Some : goal.returns-in-Ok-Some
returns-in-Ok-Some g c =
    kept_line_meets _ _ _ c.in-Ok-Some.line c.requires (found_line _ _ _ _ c.in-Ok-Some.field-0-is c.in-Ok-Some.ensures)

pub returns-in-Err-read_more : goal.returns-in-Err-read_more
returns-in-Err-read_more g c =
    let none = found_none _ _ _ c.in-Ok-None.field-0-is c.in-Ok-None.ensures in
    refused_meets _ _ _ _ c.requires none.0 _ (read_from _ _ _ _ _ _ none c.in-Err-read_more.ensures)

pub returns-in-Ok : goal.returns-in-Ok
returns-in-Ok g c =
    let none = found_none _ _ _ c.in-Ok-None.field-0-is c.in-Ok-None.ensures in
    last_meets _ _ _ _ _ c.in-Ok.line c.requires none.0 (read_end _ _ _ _ _ _ c.in-Ok-false.field-0-test none c.in-Ok-false.ensures) c.in-Ok.ensures

pub returns-in-Err-take_last : goal.returns-in-Err-take_last
returns-in-Err-take_last g c =
    let none = found_none _ _ _ c.in-Ok-None.field-0-is c.in-Ok-None.ensures in
    no_memory_last _ _ _ _ _ c.requires none.0 (read_end _ _ _ _ _ _ c.in-Ok-false.field-0-test none c.in-Ok-false.ensures)
    c.in-Err-take_last.ensures.0 c.in-Err-take_last.ensures.1 c.in-Err-take_last.ensures.2
