mod LineTexts
mod Rulings
