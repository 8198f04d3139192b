-- What is read of a text that is too long gets the answers of all of it (`Cut`).
mod Cut
