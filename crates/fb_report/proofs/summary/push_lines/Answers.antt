use Rattle.fb_report.proofs.Words.{ap, ◌∙◌, ◌++◌, ◌-◌, [], ◌∷◌, length, codes, decimal, count_by, filter_map, sum_by, line_of, delivery_in}
use Rattle.fb_report.proofs.Words.{gap_in, last_finish, summary_lines, task_in}
use Rattle.fb_report.proofs.Sums.{ten_lines}
use Rattle.fb_report.proofs.summary.push_lines.Goals as goal

pub returns : goal.returns
unfolding summary_lines
returns c =
    let run = c.args.run.now in
    let deliveries = filter_map delivery_in run.back in
    let tasks = filter_map task_in run.back in
    ten_lines
    (line_of (codes "requests") (decimal (length run.fore) ∷ []))
    (line_of (codes "passed") (decimal run.passed_over ∷ []))
    (line_of (codes "sectors") (decimal (sum_by (λ row. row.request.count) run.fore) ∷ []))
    (line_of (codes "finish") (decimal (last_finish run) ∷ []))
    (line_of (codes "response") (decimal (sum_by (λ row. row.finish - row.request.arrival) run.fore) ∷ []))
    (line_of (codes "gaps") (decimal (length (filter_map gap_in run.back)) ∷ []))
    (line_of (codes "delivered") (decimal (length deliveries) ∷ decimal (sum_by (λ row. row.block.count) deliveries) ∷ []))
    (line_of (codes "bad") (decimal (sum_by (λ row. row.bad) deliveries) ∷ []))
    (line_of (codes "complete") (decimal (count_by (λ row. row.complete) tasks) ∷ decimal (length tasks) ∷ []))
    (line_of (codes "end") (decimal run.end ∷ []))
    c.push_line.new.text.items c.push_line-2.new.text.items c.push_line-3.new.text.items c.push_line-4.new.text.items
    c.push_line-5.new.text.items c.push_line-6.new.text.items c.push_line-7.new.text.items c.push_line-8.new.text.items
    c.push_line-9.new.text.items c.push_line-10.new.text.items
    (c.in_ok-push_line.ensures ∙ ap (λ x. c.args.text.now.items ++ line_of (codes "requests") (decimal x ∷ [])) c.len.ensures.value
    ∙ ap (λ xs. xs ++ line_of (codes "requests") (decimal (length run.fore) ∷ [])) c.requires)
    c.in_ok-push_line-2.ensures
    (c.in_ok-push_line-3.ensures
    ∙ ap (λ x. c.push_line-2.new.text.items ++ line_of (codes "sectors") (decimal x ∷ [])) c.of-served.ensures.sectors)
    (c.in_ok-push_line-4.ensures
    ∙ ap (λ x. c.push_line-3.new.text.items ++ line_of (codes "finish") (decimal x ∷ [])) c.of-served.ensures.finish)
    (c.in_ok-push_line-5.ensures
    ∙ ap (λ x. c.push_line-4.new.text.items ++ line_of (codes "response") (decimal x ∷ [])) c.of-served.ensures.response)
    (c.in_ok-push_line-6.ensures ∙ ap (λ x. c.push_line-5.new.text.items ++ line_of (codes "gaps") (decimal x ∷ [])) c.gaps-gaps.ensures)
    (c.in_ok-push_line-7.ensures ∙ ap (λ x. c.push_line-6.new.text.items
    ++ line_of (codes "delivered") (decimal x ∷ decimal c.of-delivered.result.sectors ∷ [])) c.of-delivered.ensures.blocks
    ∙ ap (λ x. c.push_line-6.new.text.items ++ line_of (codes "delivered") (decimal (length deliveries) ∷ decimal x ∷ []))
    c.of-delivered.ensures.sectors)
    (c.in_ok-push_line-8.ensures
    ∙ ap (λ x. c.push_line-7.new.text.items ++ line_of (codes "bad") (decimal x ∷ [])) c.of-delivered.ensures.bad)
    (c.in_ok-push_line-9.ensures ∙ ap (λ x. c.push_line-8.new.text.items
    ++ line_of (codes "complete") (decimal x ∷ decimal c.of-tasks.result.all ∷ [])) c.of-tasks.ensures.complete
    ∙ ap (λ x. c.push_line-8.new.text.items ++ line_of (codes "complete") (decimal (count_by (λ row. row.complete) tasks) ∷ decimal x ∷ []))
    c.of-tasks.ensures.all)
    c.in_ok-push_line-10.ensures
