-- How the runs of contents are kept.
use Rattle.std.specs.Prelude.{ℕ, List, [], ◌∷◌, ◌==◌, map, if◌then◌else◌}
use Rattle.fb_store.specs.declared.content.Content.{Content}
use Rattle.fb_store.specs.declared.content.Content.TheVariants.{Filled, Unreadable}
use Rattle.fb_store.specs.declared.content.ContentRun.{ContentRun}
use Rattle.fb_store.specs.declared.contents.Kept.{Kept}
use Rattle.fb_store.specs.declared.contents.Kept.TheVariants.{Nothing, One, Short, Listed}
use Rattle.fb_store.specs.declared.contents.ShortRun.{ShortRun}

-- the content that a number in a writer's place stands for: the greatest of 32 bits is no writer, but says that nothing can be read
abbrev pub content_of : ℕ → Content
content_of writer = if writer == 4294967295 then Unreadable else Filled writer

-- the run that a short one stands for
abbrev pub run_of : ShortRun → ContentRun
run_of run = record { first = run.first; count = run.count; content = content_of run.writer }

-- the runs that are kept in one of these ways
abbrev pub kept_runs : Kept → List ContentRun
kept_runs Nothing = []
kept_runs (One count writer first) = record { first = first; count = count; content = Filled writer } ∷ []
kept_runs (Short runs) = map run_of runs.value.items
kept_runs (Listed runs) = runs.value.items
