-- Figures in the text form of Prometheus ("Exposition formats", "Text-based format").
use Rattle.std.specs.Prelude.{ℕ, List, [], ◌++◌, codes}
use Rattle.std.specs.Fmt.{decimal}
use Rattle.mx_metrics.specs.declared.samples.FamilyKind.{FamilyKind}
use Rattle.mx_metrics.specs.declared.samples.FamilyKind.TheVariants as kind
use Rattle.mx_metrics.specs.declared.samples.Labels.{Labels}
use Rattle.mx_metrics.specs.declared.samples.Labels.TheVariants as labels

abbrev pub kind_name : FamilyKind → List ℕ
kind_name kind.Counter = codes "counter"
kind_name kind.Gauge = codes "gauge"
kind_name kind.Histogram = codes "histogram"

-- what the figures of a name are, and of what kind
abbrev pub family_text : (name help : List ℕ) → FamilyKind → List ℕ
family_text name help k =
    codes "# HELP " ++ (name ++ (codes " " ++ (help ++ (codes "\n# TYPE " ++ (name ++ (codes " " ++ (kind_name k ++ codes "\n")))))))

-- one label, as its name and its value in quotes
abbrev pub label_text : (name value : List ℕ) → List ℕ
label_text name value = name ++ (codes "=\"" ++ (value ++ codes "\""))

-- labels in braces, where there are some
abbrev pub labels_shown : Labels → List ℕ
labels_shown labels.None = []
labels_shown (labels.One l) = codes "{" ++ (label_text l.name.now l.value.now ++ codes "}")
labels_shown (labels.Two l m) = codes "{" ++ (label_text l.name.now l.value.now ++ (codes "," ++ (label_text m.name.now m.value.now ++ codes "}")))

-- one figure
abbrev pub sample_text : (name labels : List ℕ) → ℕ → List ℕ
sample_text name labels value = name ++ (labels ++ (codes " " ++ (decimal value ++ codes "\n")))
